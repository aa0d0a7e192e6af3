use Rattle.std.proofs.Common.{◌≡◌, ℕ, ◌<◌, ◌+◌, ◌*◌, ◌/◌, ◌%◌, inl, inr, ⊎_elim, sym, subst, arith, get_or}
use Rattle.arachne_exec.specs.{Layout.summary_at, Board.owed}
use Rattle.arachne_exec.proofs.Bits.{bit-some}
use Rattle.arachne_exec.proofs.laws.sleepers_are_woken.Goals as goal

pub returns : goal.returns
returns c = λ shards b h worker is block inside mine some_ready. ⊎_elim
    (λ shown.
    let k : ℕ = block / 64 / 64 in let at : worker + 64 * k ≡ block / 64 = omega (arith, mine) in
    let there = subst (λ n. 0 < get_or b.words (summary_at n) 0) (sym at) (bit-some (get_or b.words (summary_at (block / 64)) 0) (block % 64) shown) in
    let seen = is.has_seen worker k is.is_worker (omega (arith, at, inside)) in
    inr (subst (λ n. 0 < owed n b.views) at (h.sleep.awake is.seat is.view is.there worker k is.is_worker seen is.idle there)))
    (λ owes. inl owes)
    (h.shows.shown block inside some_ready)
