-- If one job is in hand, it is the newest.
use Rattle.std.proofs.Common.{◌≡◌, ℕ, List, [], ◌∷◌, sym, ap, ◌∙◌}
use Rattle.arachne_exec.specs.declared.view.Notes.{Notes}
use Rattle.arachne_exec.specs.Changes.{older}
use Rattle.arachne_exec.specs.Seats.{IsNewest}

pub newest : (k : Notes) (place job : ℕ) → k.hand ≡ (place, job) ∷ [] → IsNewest place k
newest k place job e = record { job = job; hand = e ∙ ap (λ (t : List (ℕ × ℕ)). (place, job) ∷ t) (sym (ap older e)) }
