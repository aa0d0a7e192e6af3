use Rattle.arachne_jobs.proofs.Keeps.{opens, keeps-push, keeps-pop, keeps-split, keeps-join}
use Rattle.arachne_jobs.proofs.spill.tags_stay_balanced.Goals as goal

pub returns : goal.returns
returns g c = record {
  at_first = opens;
  after_a_push = λ tag_of items passes h place weight known mine item. keeps-push tag_of passes place weight known mine items h item;
  after_a_pop = λ tag_of item items passes h place weight known mine. keeps-pop tag_of passes place weight known mine item items h;
  after_a_split = λ tag_of items passes h place weight known mine. keeps-split tag_of passes place weight known mine items h;
  after_a_join = λ tag_of items passes h place weight known mine. keeps-join tag_of passes place weight known mine items h;
}
