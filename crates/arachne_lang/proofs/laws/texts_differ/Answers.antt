use Rattle.std.proofs.Common.{ℕ, List, [], ◌++◌, ap}
use Rattle.arachne_lang.proofs.ExactProgram.{text_of-unique}
use Rattle.arachne_lang.proofs.laws.texts_differ.Goals as goal

pub returns : goal.returns
returns c some other same = text_of-unique some other [] [] (ap (λ (text : List ℕ). text ++ []) same)
