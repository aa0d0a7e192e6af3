-- What a seat knows after several steps of a call.
use Rattle.std.proofs.Common.{◌≡◌, ◌≢◌, ℕ, zero, suc, ◌+◌, ◌*◌, ◌/◌, ◌%◌, ◌<◌, ◌≤◌, ◌⊎◌, List, [], ◌∷◌, ◌++◌, refl, sym, subst, ap, ◌∙◌, arith}
use Rattle.std.specs.Int.{bit_at}
use Rattle.arachne_exec.specs.{declared.view.Notes.Notes, Layout.{mark_at, last_generation}}
use Rattle.arachne_exec.specs.Changes.{older, newest_job, heard_more, claiming, spawning, noted, hearing, cleared_heard, cleared_looks, using_up}
use Rattle.arachne_exec.specs.Calls.{HasMissed, HasFinished}

-- a bit of a block's word that was found set, and then clear
pub missed : (at : ℕ → ℕ) (block index first then : ℕ) (k looked after : Notes) → index < 64 → bit_at first index ≡ 1 → looked ≡ noted (at block) first k → bit_at then ((64 * block + index) % 64) ≡ 0
    → after ≡ noted (at ((64 * block + index) / 64)) then looked → HasMissed (at block) k after
missed at block index first then k looked after low was saw gone cleared =
    let row : (64 * block + index) / 64 ≡ block = omega (arith, low) in let col : (64 * block + index) % 64 ≡ index = omega (arith, low) in record {
      first = first;
      then = then;
      index = index;
      low = low;
      was = was;
      gone = ap (bit_at then) (sym col) ∙ gone;
      known = cleared ∙ (λ i. noted (at (row i)) then (saw i));
    }

-- a job was spawned at a place that was claimed, by a seat that owed none before
pub spawned : (place job : ℕ) (k : Notes) → k.unspawned ≡ 0 → spawning job (claiming place k) ≡ record k { spawned = (place, job) ∷ k.spawned }
spawned place job k calm = λ i. record k { spawned = (place, job) ∷ k.spawned; unspawned = sym calm i }

-- a job has ended
abbrev finished : ℕ → ℕ → ℕ → List (ℕ × ℕ) → (blocked freed : List ℕ) → Notes → Notes
finished place mark n then blocked freed k = record k {
  hand = older k.hand;
  ended = (place, newest_job k.hand) ∷ k.ended;
  heard = heard_more (n % 2) place k.heard;
  blocked = blocked;
  freed = freed;
  looks = then ++ (mark_at place, mark) ∷ k.looks;
}

pub ended : (place mark n : ℕ) (then : List (ℕ × ℕ)) (blocked freed : List ℕ) (k after : Notes) → after ≡ finished place mark n then blocked freed k
    → ((mark / 4 + 1 < last_generation) × (blocked ≡ k.blocked) × (freed ≡ place ∷ k.freed) × (then ≡ (mark_at place, 4 * (mark / 4 + 1)) ∷ []))
    ⊎ ((last_generation ≤ mark / 4 + 1) × (blocked ≡ place ∷ k.blocked) × (freed ≡ k.freed) × (then ≡ [])) → HasFinished place k after
ended place mark n then blocked freed k after e last = subst (HasFinished place k) (sym e) (record { mark = mark; then = then; found = refl; heard = n; known = refl; retired = last })

-- a mark that says of no wake stays, and another is cleared
pub unmarked : (mark place then : ℕ) (k : Notes) → mark % 4 ≡ 0 → using_up mark place then k ≡ k
unmarked mark place then k e = λ i. record k { heard = cleared_heard (e i) place then k.heard; looks = cleared_looks (e i) place then k.looks }

cleared-some : (low place then : ℕ) (k : Notes) → low ≢ 0 → record k { heard = cleared_heard low place then k.heard; looks = cleared_looks low place then k.looks } ≡ noted (mark_at place) (4 * (then / 4)) (hearing (then % 2) place k)
cleared-some zero place then k ne = absurd (ne refl)
cleared-some (suc n) place then k ne = refl

pub cleared : (mark place then : ℕ) (k : Notes) → mark % 4 ≢ 0 → using_up mark place then k ≡ noted (mark_at place) (4 * (then / 4)) (hearing (then % 2) place k)
cleared mark place then k ne = cleared-some (mark % 4) place then k ne
