-- The definitions of the World on small worlds: events that must be allowed are, with their effects; others are not;
-- and each fact of `OwnedOnce` refuses a world that breaks it. No other proof rests on these.
use Rattle.std.proofs.Common.{◌≡◌, ℕ, true, false, eqb, inl, inr, List, [], ◌∷◌, refl, sym, ap, arith, true≢false}
use Rattle.arachne_core.specs.{declared.{place.Place.Place, event.Event.Event}, Place.first_place, OwnedOnce.OwnedOnce}
use Rattle.arachne_core.specs.declared.state.State.TheVariants.{Free, Claimed, Ready, Blocked, Held, Spent}
use Rattle.arachne_core.specs.{World.{World, Thread, Allowed, after, put_back}, ContextTable.marked}
use Rattle.arachne_core.specs.Run.{IsOpening, IsRun, after_all, IsDrained, NeverOpens, NeverLetsGo}
use Rattle.arachne_core.specs.declared.state.Rest.TheVariants as rest
use Rattle.arachne_core.specs.declared.mark.Mark.TheVariants as mark
use Rattle.arachne_core.specs.declared.event.Event.TheVariants as event

-- two cores of two places, with two generations: 0 and 1
abbrev begun : World
begun = record {
  cores = 2;
  slots = 2;
  last = 1;
  at = first_place 2;
  occupied = λ p. false;
  generation = λ x. 0;
  state = λ x. Free;
  closed = λ c. false;
  alone = λ c. false;
  given = λ t. 0;
  ended = λ t. 0;
}

is_opening : IsOpening begun 0
is_opening = record {
  within = omega arith;
  at = λ x h. refl;
  generation = λ x h. refl;
  state = λ x h. refl;
  occupied = λ p h. refl;
  closed = λ c h. refl;
  alone = λ c h. refl;
  given = λ t. refl;
  ended = λ t. refl;
}

abbrev thread : ℕ → ℕ → ℕ → Thread
thread context generation tag = (record { context = context; generation = generation }, tag)

abbrev place : ℕ → ℕ → Place
place core index = record { core = core; index = index }

-- ---- a run on one core, which is closed meanwhile

abbrev closing : List Event
closing = event.Claim 0 0 ∷ event.Post 0 0 7 ∷ event.CloseCore 0 ∷ event.Take 1 0 ∷ []

is_run : IsRun begun closing
is_run = (
  record { context = omega arith; free = refl; core = record { not_closed = refl; not_alone = refl } },
  (record { context = omega arith; claimed = refl }, (omega arith, (record { context = omega arith; ready = tt }, tt))),
)

abbrev closed : World
closed = after_all begun closing

state_then : closed.state 0 ≡ Held 1 false 7
state_then = refl

given_then : closed.given (thread 0 0 7) ≡ 1
given_then = refl

occupied_then : (closed.occupied (place 0 0) ≡ true) × (closed.occupied (place 0 1) ≡ false)
occupied_then = (refl, refl)

no_claim_on_a_closed_core : ¬ Allowed closed (event.Claim 0 1)
no_claim_on_a_closed_core a = true≢false a.core.not_closed

no_second_take : ¬ Allowed closed (event.Take 0 0)
no_second_take a = a.ready

no_other_puts_back : ¬ Allowed closed (event.Rest 0 0 rest.Ready)
no_other_puts_back a = omega (arith, a.held)

no_other_retires : ¬ Allowed closed (event.Retire 0 0)
no_other_retires a = omega (arith, a.held)

open_again : (after closed (event.OpenCore 0)).closed 0 ≡ false
open_again = refl

no_such_core : ¬ Allowed begun (event.CloseCore 2)
no_such_core a = omega (arith, a)

no_such_context : ¬ Allowed begun (event.Claim 0 4)
no_such_context a = omega (arith, a.context)

-- ---- put back and woken

put_back_as_asked : (put_back rest.Blocked (Held 1 false 7) ≡ Blocked 7) × (put_back rest.Ready (Held 1 false 7) ≡ Ready 7)
put_back_as_asked = (refl, refl)

put_back_woken : (put_back rest.Blocked (Held 1 true 7) ≡ Ready 7) × (put_back rest.Ready (Held 1 true 7) ≡ Ready 7)
put_back_woken = (refl, refl)

abbrev wake_zero : Event
wake_zero = event.Wake (record { context = 0; generation = 0 })

woken_then : (after closed wake_zero).state 0 ≡ Held 1 true 7
woken_then = refl

no_second_wake : ¬ Allowed (after closed wake_zero) wake_zero
no_second_wake a = a.waits

no_wake_of_another_generation : ¬ Allowed closed (event.Wake (record { context = 0; generation = 1 }))
no_wake_of_another_generation a = omega (arith, a.generation)

no_wake_of_a_ready_thread : ¬ Allowed (after closed (event.Rest 1 0 rest.Ready)) wake_zero
no_wake_of_a_ready_thread a = a.waits

no_take_of_a_blocked_thread : ¬ Allowed (after closed (event.Rest 1 0 rest.Blocked)) (event.Take 1 0)
no_take_of_a_blocked_thread a = a.ready

-- ---- threads end, below the last generation and at it

abbrev ended : World
ended = after closed (event.Retire 1 0)

ended_then : (ended.state 0 ≡ Claimed 1) × (ended.generation 0 ≡ 1) × (ended.ended (thread 0 0 7) ≡ 1) × (ended.occupied (place 0 0) ≡ true)
ended_then = (refl, refl, refl, refl)

no_other_releases : ¬ Allowed ended (event.Release 0 0)
no_other_releases a = let same : Claimed 1 ≡ Claimed 0 = a.claimed in cc

released : (after ended (event.Release 1 0)).occupied (place 0 0) ≡ false
released = refl

abbrev last : World
last = after_all ended (event.Post 1 0 8 ∷ event.Take 1 0 ∷ event.Retire 1 0 ∷ [])

spent_then : (last.state 0 ≡ Spent) × (last.generation 0 ≡ 1) × (last.ended (thread 0 1 8) ≡ 1) × (last.occupied (place 0 0) ≡ true)
spent_then = (refl, refl, refl, refl)

no_release_of_a_spent_context : ¬ Allowed last (event.Release 1 0)
no_release_of_a_spent_context a = let same : Spent ≡ Claimed 1 = a.claimed in cc

-- ---- a thread on an exclusive core

abbrev alone : World
alone = after begun (event.Alone 0 2)

alone_then : (alone.alone 1 ≡ true) × (alone.state 2 ≡ Claimed 0) × (alone.occupied (place 1 0) ≡ true)
alone_then = (refl, refl, refl)

no_claim_beside_it : ¬ Allowed alone (event.Claim 0 3)
no_claim_beside_it a = true≢false a.core.not_alone

not_alone_at_index_1 : ¬ Allowed begun (event.Alone 0 3)
not_alone_at_index_1 a = omega (arith, a.first)

not_alone_beside_a_claimed_place : ¬ Allowed (after begun (event.Claim 0 3)) (event.Alone 0 2)
not_alone_beside_a_claimed_place a = true≢false (a.empty 1 (omega arith))

alone_until_released : (after alone (event.Release 0 2)).alone 1 ≡ false
alone_until_released = refl

-- the `alone` bit of a spent context isn't set, and its core stays exclusive
abbrev spent_alone : World
spent_alone = after_all (record alone { generation = λ x. 1 }) (event.Post 0 2 7 ∷ event.Take 0 2 ∷ event.Retire 0 2 ∷ [])

spent_alone_then : (spent_alone.alone 1 ≡ true) × ((marked spent_alone 2).alone ≡ false) × ((marked spent_alone 2).mark ≡ mark.Spent)
spent_alone_then = (refl, refl, refl)

posted_alone : (marked (after alone (event.Post 0 2 7)) 2).alone ≡ true
posted_alone = refl

-- ---- a move to another core and back

abbrev apart : World
apart = after_all begun (event.Claim 0 0 ∷ event.Post 0 0 7 ∷ event.Claim 0 2 ∷ [])

abbrev moved : World
moved = after apart (event.Move 0 0 2)

is_a_move : Allowed apart (event.Move 0 0 2)
is_a_move = record { from = omega arith; to = omega arith; at_rest = tt; claimed = refl; apart = λ e. omega (arith, e); from_core = refl; to_core = refl }

moved_then : (moved.at 0 ≡ place 1 0) × (moved.at 2 ≡ place 0 0) × (moved.state 0 ≡ Ready 7) × (moved.occupied (place 0 0) ≡ true)
moved_then = (refl, refl, refl, refl)

no_move_by_another : ¬ Allowed apart (event.Move 1 0 2)
no_move_by_another a = let same : Claimed 0 ≡ Claimed 1 = a.claimed in cc

no_move_of_a_held_thread : ¬ Allowed (after apart (event.Take 0 0)) (event.Move 0 0 2)
no_move_of_a_held_thread a = a.at_rest

no_move_within_a_core : ¬ Allowed (after apart (event.Claim 0 1)) (event.Move 0 0 1)
no_move_within_a_core a = a.apart refl

no_move_from_a_core_alone : ¬ Allowed (record apart { alone = λ c. eqb c 0 }) (event.Move 0 0 2)
no_move_from_a_core_alone a = true≢false a.from_core

no_move_to_a_core_alone : ¬ Allowed (record apart { alone = λ c. eqb c 1 }) (event.Move 0 0 2)
no_move_to_a_core_alone a = true≢false a.to_core

-- ---- each fact of being owned once

outside : ¬ OwnedOnce (record begun { at = λ x. place 2 0 })
outside o = omega (arith, (o.placed 0 (omega arith)).0)

two_at_a_place : ¬ OwnedOnce (record begun { at = λ x. place 0 0 })
two_at_a_place o = omega (arith, o.apart 0 1 (omega arith) (omega arith) refl)

claimed_not_free : Claimed 0 ≡ Free → ⊥
claimed_not_free e = cc

claimed_without_its_place : ¬ OwnedOnce (record begun { state = λ x. Claimed 0 })
claimed_without_its_place o = true≢false (sym ((o.occupied 0 (omega arith)).1 claimed_not_free))

occupied_and_free : ¬ OwnedOnce (record begun { occupied = λ p. true })
occupied_and_free o = (o.occupied 0 (omega arith)).0 refl refl

past_the_last : ¬ OwnedOnce (record begun { generation = λ x. 2 })
past_the_last o = omega (arith, o.bounded 0 (omega arith))

given_twice : ¬ OwnedOnce (record begun { given = λ t. 2; ended = λ t. 2 })
given_twice o = omega (arith, o.once (thread 0 0 7))

two_tags_of_one_id : ¬ OwnedOnce (record begun { generation = λ x. 1; given = λ t. 1; ended = λ t. 1 })
two_tags_of_one_id o = omega (arith, ap (λ (t : Thread). t.1) (o.one_tag (thread 0 0 7) (thread 0 0 8) refl (omega arith) (omega arith)))

given_to_come : ¬ OwnedOnce (record begun { given = λ t. 1; ended = λ t. 1 })
given_to_come o = elim (o.generations (thread 0 0 7) (omega arith)).1 [ inl e ↦ omega (arith, e) | inr e ↦ e.1 ]

live_and_never_given : ¬ OwnedOnce (record begun { state = λ x. Ready 7; occupied = λ p. true })
live_and_never_given o = omega (arith, o.live (thread 0 0 7))

given_and_lost : ¬ OwnedOnce (record begun { generation = λ x. 1; given = λ t. 1 })
given_and_lost o = omega (arith, o.live (thread 0 0 7))

alone_with_none : ¬ OwnedOnce (record begun { alone = λ c. true })
alone_with_none o = true≢false (sym (o.alone 0 (omega arith) refl).2)

alone_with_two : ¬ OwnedOnce (record begun { alone = λ c. true; state = λ x. Claimed 0; occupied = λ p. true })
alone_with_two o =
    let one = o.alone 0 (omega arith) refl in
    omega (arith, one.3 0 (omega arith) refl, one.3 1 (omega arith) refl)

-- ---- drained, and never opened

not_drained_while_open : ¬ IsDrained begun 0
not_drained_while_open d = true≢false (sym d.1)

not_drained_while_occupied : ¬ IsDrained closed 0
not_drained_while_occupied d = true≢false (d.2 0 (omega arith))

drained : IsDrained (after begun (event.CloseCore 0)) 0
drained = (omega arith, refl, λ i h. refl)

opens : ¬ NeverOpens 0 (event.Still ∷ event.OpenCore 0 ∷ [])
opens n = n.1.0 refl

lets_go : ¬ NeverLetsGo 1 0 (event.Still ∷ event.Rest 1 0 rest.Ready ∷ [])
lets_go n = n.1.0 (refl, refl)
