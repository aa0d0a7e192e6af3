use Rattle.std.proofs.Common.{ℕ, replicate}
use Rattle.std.proofs.lemmas.List.{length-replicate, get_or-replicate}
use Rattle.arachne_grants.proofs.Counts.{AreTaken-none}
use Rattle.arachne_grants.proofs.owners.take_back.Goals as goal

pub take-init : goal.take-init
take-init c =
    AreTaken-none c.args.owners.now c.args.targets.now (replicate 256 0) (length-replicate {A = ℕ} 256 0) (λ client few. get_or-replicate {A = ℕ} 256 client 0 0 few)
