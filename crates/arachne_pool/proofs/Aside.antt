-- Children that have not begun are the newest ones.
use Rattle.std.proofs.Common.{◌≡◌, ℕ, List, ◌++◌, length, reverse, take, sym}
use Rattle.std.proofs.lemmas.List.{length-reverse}
use Rattle.std.proofs.Math.Seq.{take-append_seam}

module _ {A : Type 0} where
  pub newest_of_both : (xs ys : List A) (n : ℕ) → n ≡ length xs → take n (reverse xs ++ ys) ≡ reverse xs
  newest_of_both xs ys n same = rw same (rw (sym (length-reverse xs)) (take-append_seam (reverse xs) ys))
