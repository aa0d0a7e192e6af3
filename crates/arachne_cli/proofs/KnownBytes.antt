-- The effect of writes and reads, one after another, on known bytes.
use Rattle.std.proofs.Common.{◌≡◌, refl, ℕ, ◌+◌, ◌-◌, ◌≤◌, List, ◌++◌, length, length-append, take, drop, ap, sym, ◌∙◌, append_assoc, Option, None, Some, arith, length-drop, length-take, Result, Ok, Err, OnOk, OnErr}
use Rattle.std.{proofs.Math.Seq.{take-add, take-length}, specs.Io.KnownBytes.{Appends, Consumes, Keeps}}
use Rattle.arachne_cli.specs.{declared.fault.Fault.Fault, Ends.AppendsFront}

pub appends_both : (a b c : Option (List ℕ)) (xs ys : List ℕ) → Appends a b xs → Appends b c ys → Appends a c (xs ++ ys)
appends_both None b c xs ys p q = tt
appends_both (Some a) None c xs ys p q = absurd p
appends_both (Some a) (Some b) None xs ys p q = absurd q
appends_both (Some a) (Some b) (Some c) xs ys p q = q ∙ ap (λ front. front ++ ys) p ∙ append_assoc a xs ys

pub consumes_both : (a b c : Option (List ℕ)) (xs ys : List ℕ) → Consumes a b xs → Consumes b c ys → Consumes a c (xs ++ ys)
consumes_both None b c xs ys p q = tt
consumes_both (Some a) None c xs ys p q = absurd p
consumes_both (Some a) (Some b) None xs ys p q = absurd q
consumes_both (Some a) (Some b) (Some c) xs ys p q = p ∙ ap (λ rest. xs ++ rest) q ∙ sym (append_assoc xs ys c)

-- the first n + m bytes: the first n, and the first m of all that are left
pub take_rest : (bytes : List ℕ) (n m : ℕ) → take (n + m) bytes ≡ take n bytes ++ take m (take (length bytes - n) (drop n bytes))
take_rest bytes n m =
    let rest = drop n bytes in
    let all : take (length bytes - n) rest ≡ rest = ap (λ k. take k rest) (sym (length-drop n bytes)) ∙ take-length rest in
    take-add n m bytes ∙ ap (λ xs. take n bytes ++ take m xs) (sym all)

-- a part of the bytes that were asked for fits the room
pub length_read : (before buffer : List ℕ) (n limit : ℕ) → length before + length buffer ≤ limit → length (before ++ take n buffer) ≤ limit
length_read before buffer n limit room = simp (length-append, length-take) (omega arith)

-- all of the bytes are a front of them
pub front_either : (r : Result (Unit {0}) Fault) (old new : Option (List ℕ)) (bytes : List ℕ) → OnOk r (Appends old new bytes) → OnErr r (AppendsFront old new bytes)
    → AppendsFront old new bytes
front_either (Ok _) None new bytes p q = tt
front_either (Ok _) (Some old) None bytes p q = absurd p
front_either (Ok _) (Some old) (Some new) bytes p q = (length bytes, ap (λ all. Some all) (p ∙ ap (λ all. old ++ all) (sym (take-length bytes))))
front_either (Err _) old new bytes p q = q

-- bytes that were appended and then kept are a front of themselves
pub front_kept : (a b c : Option (List ℕ)) (bytes : List ℕ) → Appends a b bytes → Keeps b c → AppendsFront a c bytes
front_kept None b c bytes p q = tt
front_kept (Some a) None c bytes p q = absurd p
front_kept (Some a) (Some b) None bytes p q = absurd q
front_kept (Some a) (Some b) (Some c) bytes p q = (length bytes, ap (λ all. Some all) (q ∙ p ∙ ap (λ all. a ++ all) (sym (take-length bytes))))

-- known bytes that nothing touched are kept
pub keeps_same : (known : Option (List ℕ)) → Keeps known known
keeps_same None = tt
keeps_same (Some bytes) = refl
