-- A message's four numbers decide it.
use Rattle.std.proofs.Common.{◌≡◌, ℕ, ◌^◌, ◌<◌, Bool, true, false, List, arith, refl, sym, ◌∙◌, inl, inr}
use Rattle.std.proofs.lemmas.Nat.{same_from_place}
use Rattle.arachne_grants.specs.declared.messages.ClientMessage.{ClientMessage}
use Rattle.arachne_grants.specs.declared.messages.ClientMessage.TheVariants.{Hello, Join, Wait, Ask}
use Rattle.arachne_grants.specs.declared.messages.MessageFault.{MessageFault}
use Rattle.arachne_grants.specs.declared.messages.MessageFault.TheVariants.{Short, Kind, Version, Priority, Place, Unused}
use Rattle.arachne_grants.specs.declared.messages.Numbers.{Numbers}
use Rattle.arachne_grants.specs.Messages.{flag, numbers_in, AreOf, IsFirstWrong, IsMessageOf, IsFaultOf, IsUnambiguous}

same-flag : (floats other : Bool) → flag floats ≡ flag other → floats ≡ other
same-flag true true same = refl
same-flag true false same = absurd (omega arith)
same-flag false true same = absurd (omega arith)
same-flag false false same = refl

flag-small : (floats : Bool) → flag floats < 2
flag-small true = omega arith
flag-small false = omega arith

one_message : (n : Numbers) (message other : ClientMessage) → AreOf n message → AreOf n other → message ≡ other
one_message n (Hello p r m) (Hello q s o) is too =
    let parts : (r ≡ s) × (m ≡ o) = same_from_place r m s o (2 ^ 16) is.5 too.5 (sym is.3 ∙ too.3) in
    let first : r ≡ s = parts.0 in
    let second : m ≡ o = parts.1 in
    let same : p ≡ q = sym is.2 ∙ too.2 in
    cc
one_message n (Hello p r m) (Join c t l f) is too = absurd (let e = is.0 in let d = too.0 in omega arith)
one_message n (Hello p r m) Wait is too = absurd (let e = is.0 in let d = too.0 in omega arith)
one_message n (Hello p r m) (Ask a) is too = absurd (let e = is.0 in let d = too.0 in omega arith)
one_message n (Join c t l f) (Hello q s o) is too = absurd (let e = is.0 in let d = too.0 in omega arith)
one_message n (Join c t l f) (Join d u k g) is too =
    let parts : (l ≡ k) × (flag f ≡ flag g) = same_from_place l (flag f) k (flag g) 2 (flag-small f) (flag-small g) (sym is.3 ∙ too.3) in
    let place : l ≡ k = parts.0 in
    let floats : f ≡ g = same-flag f g parts.1 in
    let client : c ≡ d = sym is.1 ∙ too.1 in
    let thread : t ≡ u = sym is.2 ∙ too.2 in
    cc
one_message n (Join c t l f) Wait is too = absurd (let e = is.0 in let d = too.0 in omega arith)
one_message n (Join c t l f) (Ask a) is too = absurd (let e = is.0 in let d = too.0 in omega arith)
one_message n Wait (Hello q s o) is too = absurd (let e = is.0 in let d = too.0 in omega arith)
one_message n Wait (Join d u k g) is too = absurd (let e = is.0 in let d = too.0 in omega arith)
one_message n Wait Wait is too = refl
one_message n Wait (Ask a) is too = absurd (let e = is.0 in let d = too.0 in omega arith)
one_message n (Ask a) (Hello q s o) is too = absurd (let e = is.0 in let d = too.0 in omega arith)
one_message n (Ask a) (Join d u k g) is too = absurd (let e = is.0 in let d = too.0 in omega arith)
one_message n (Ask a) Wait is too = absurd (let e = is.0 in let d = too.0 in omega arith)
one_message n (Ask a) (Ask b) is too =
    let same : a ≡ b = sym is.1 ∙ too.1 in
    cc

no_kind : (n : Numbers) (message : ClientMessage) → AreOf n message → IsFirstWrong n Kind → ⊥
no_kind n (Hello p r m) is wrong = wrong.0 is.0
no_kind n (Join c t l f) is wrong = wrong.1 is.0
no_kind n Wait is wrong = wrong.2 is.0
no_kind n (Ask a) is wrong = wrong.3 is.0

no_version : (n : Numbers) (message : ClientMessage) → AreOf n message → IsFirstWrong n Version → ⊥
no_version n (Hello p r m) is wrong = wrong.1 is.1
no_version n (Join c t l f) is wrong = let e = is.0 in let d = wrong.0 in omega arith
no_version n Wait is wrong = let e = is.0 in let d = wrong.0 in omega arith
no_version n (Ask a) is wrong = let e = is.0 in let d = wrong.0 in omega arith

no_priority : (n : Numbers) (message : ClientMessage) → AreOf n message → IsFirstWrong n Priority → ⊥
no_priority n (Hello p r m) is wrong = let e = is.2 in let d = is.4 in let h = wrong.2 in omega arith
no_priority n (Join c t l f) is wrong = let e = is.0 in let d = wrong.0 in omega arith
no_priority n Wait is wrong = let e = is.0 in let d = wrong.0 in omega arith
no_priority n (Ask a) is wrong = let e = is.0 in let d = wrong.0 in omega arith

no_place : (n : Numbers) (message : ClientMessage) → AreOf n message → IsFirstWrong n Place → ⊥
no_place n (Hello p r m) is wrong = let e = is.0 in let d = wrong.0 in omega arith
no_place n (Join c t l f) is wrong = let e = is.3 in let d = is.4 in let h = wrong.1 in let small = flag-small f in omega arith
no_place n Wait is wrong = let e = is.0 in let d = wrong.0 in omega arith
no_place n (Ask a) is wrong = let e = is.0 in let d = wrong.0 in omega arith

no_unused : (n : Numbers) (message : ClientMessage) → AreOf n message → IsFirstWrong n Unused → ⊥
no_unused n (Hello p r m) is (inl wrong) = let e = is.0 in let d = wrong.0 in omega arith
no_unused n (Hello p r m) is (inr wrong) = let e = is.0 in let d = wrong.0 in omega arith
no_unused n (Join c t l f) is (inl wrong) = let e = is.0 in let d = wrong.0 in omega arith
no_unused n (Join c t l f) is (inr wrong) = let e = is.0 in let d = wrong.0 in omega arith
no_unused n Wait is (inl wrong) = let a = is.1 in let b = is.2 in let d = is.3 in let h = wrong.1 in omega arith
no_unused n Wait is (inr wrong) = let e = is.0 in let d = wrong.0 in omega arith
no_unused n (Ask a) is (inl wrong) = let e = is.0 in let d = wrong.0 in omega arith
no_unused n (Ask a) is (inr wrong) = let b = is.2 in let d = is.3 in let h = wrong.1 in omega arith

none_wrong : (n : Numbers) (message : ClientMessage) (fault : MessageFault) → AreOf n message → IsFirstWrong n fault → ⊥
none_wrong n message Short is wrong = wrong
none_wrong n message Kind is wrong = no_kind n message is wrong
none_wrong n message Version is wrong = no_version n message is wrong
none_wrong n message Priority is wrong = no_priority n message is wrong
none_wrong n message Place is wrong = no_place n message is wrong
none_wrong n message Unused is wrong = no_unused n message is wrong

no_fault : (bytes : List ℕ) (message : ClientMessage) (fault : MessageFault) → IsMessageOf bytes message → IsFaultOf bytes fault → ⊥
no_fault bytes message fault is (inl short) = let long = is.0 in let few = short.0 in omega arith
no_fault bytes message fault is (inr wrong) = none_wrong (numbers_in bytes) message fault is.1 wrong.1

pub IsUnambiguous-bytes : (bytes : List ℕ) → IsUnambiguous bytes
IsUnambiguous-bytes bytes = record {
  one = λ message other is too. one_message (numbers_in bytes) message other is.1 too.1;
  no_fault = no_fault bytes;
}
