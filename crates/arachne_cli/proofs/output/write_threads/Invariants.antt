use Rattle.std.{proofs.Common.{◌≡◌, ◌++◌, take, string_bytes}, specs.List.flat_map}
use Rattle.arachne_cli.specs.Output.{thread_line}
use Rattle.arachne_cli.proofs.output.write_threads.Given as goal

-- the lines of the threads so far are written
abbrev pub invariant-loop-thread : goal.invariant-loop-thread
invariant-loop-thread l = string_bytes l.text ≡ string_bytes l.initial.text ++ flat_map thread_line (take l.thread-index l.threads)
