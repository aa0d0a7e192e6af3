use Rattle.std.proofs.Common.{refl, sym}
use Rattle.arachne_pool.proofs.Aside.{newest_of_both}
use Rattle.arachne_pool.proofs.links.Links.into_aside.Goals as goal

-- those that have not begun are the newest of all
pub returns : goal.returns
returns g c = rw (← c.self.view_is) (sym (newest_of_both c.self.inside.aside.items _ _ c.self.inside.aside.ok.0), refl)
