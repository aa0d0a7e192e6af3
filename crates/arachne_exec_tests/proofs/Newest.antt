-- The job that was taken last is the newest in hand.
use Rattle.std.proofs.Common.{◌≡◌, ℕ, List, ◌∷◌, sym, ap, ◌∙◌}
use Rattle.arachne_exec.specs.declared.view.Notes.{Notes}
use Rattle.arachne_exec.specs.Changes.{older}
use Rattle.arachne_exec.specs.Seats.{IsNewest}

pub newest : (k : Notes) (place job : ℕ) (before : List (ℕ × ℕ)) → k.hand ≡ (place, job) ∷ before → IsNewest place k
newest k place job before e = record { job = job; hand = e ∙ ap (λ (t : List (ℕ × ℕ)). (place, job) ∷ t) (sym (ap older e)) }
