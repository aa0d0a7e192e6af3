-- The answer of `Pool::wake`.
use Rattle.arachne_contexts.specs.Words.{ShowsWoken}
use Rattle.arachne_contexts.specs.declared.answers.Woken.{Woken}
use Rattle.arachne_contexts.specs.declared.answers.Woken.TheVariants as woken
use Rattle.arachne_core.specs.declared.thread_id.ThreadId.{ThreadId}

-- true unless the answer is `Lost`, or `Already` with a word that doesn't show that no wake was needed
abbrev pub HasWoken : ThreadId → Woken → Type 0
HasWoken id woken.Woken = Unit {0}
HasWoken id (woken.Already word) = ShowsWoken id word
HasWoken id woken.Gone = Unit {0}
HasWoken id (woken.Lost word) = ⊥
