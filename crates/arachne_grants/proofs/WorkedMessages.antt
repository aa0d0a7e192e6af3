-- Messages that were worked out by hand.
use Rattle.std.proofs.Common.{[], ◌∷◌, true, refl, lit<, lit≤}
use Rattle.arachne_grants.specs.declared.messages.ClientMessage.TheVariants.{Hello, Join, Wait, Ask}
use Rattle.arachne_grants.specs.declared.messages.MessageFault.TheVariants.{Priority}
use Rattle.arachne_grants.specs.Messages.{numbers_in, AreOf, IsFirstWrong}

-- version 1, priority 4, 2 of 64 cores reserved
hello : AreOf (numbers_in (1 ∷ 0 ∷ 0 ∷ 0 ∷ 1 ∷ 0 ∷ 0 ∷ 0 ∷ 4 ∷ 0 ∷ 0 ∷ 0 ∷ 64 ∷ 0 ∷ 2 ∷ 0 ∷ [])) (Hello 4 2 64)
hello = (refl, refl, refl, refl, lit< tt, lit< tt)

-- kernel thread 4,660 of client 300 is its first, and floats
join : AreOf (numbers_in (2 ∷ 0 ∷ 0 ∷ 0 ∷ 44 ∷ 1 ∷ 0 ∷ 0 ∷ 52 ∷ 18 ∷ 0 ∷ 0 ∷ 1 ∷ 0 ∷ 0 ∷ 0 ∷ [])) (Join 300 4660 0 true)
join = (refl, refl, refl, refl, lit< tt)

wait : AreOf (numbers_in (3 ∷ 0 ∷ 0 ∷ 0 ∷ 0 ∷ 0 ∷ 0 ∷ 0 ∷ 0 ∷ 0 ∷ 0 ∷ 0 ∷ 0 ∷ 0 ∷ 0 ∷ 0 ∷ [])) Wait
wait = (refl, refl, refl, refl)

ask : AreOf (numbers_in (4 ∷ 0 ∷ 0 ∷ 0 ∷ 3 ∷ 0 ∷ 0 ∷ 0 ∷ 0 ∷ 0 ∷ 0 ∷ 0 ∷ 0 ∷ 0 ∷ 0 ∷ 0 ∷ [])) (Ask 3)
ask = (refl, refl, refl, refl)

priority : IsFirstWrong (numbers_in (1 ∷ 0 ∷ 0 ∷ 0 ∷ 1 ∷ 0 ∷ 0 ∷ 0 ∷ 8 ∷ 0 ∷ 0 ∷ 0 ∷ 0 ∷ 0 ∷ 0 ∷ 0 ∷ [])) Priority
priority = (refl, refl, lit≤ tt)
