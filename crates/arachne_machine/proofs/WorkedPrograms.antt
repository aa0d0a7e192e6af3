-- The steps and the traces of worked programs.
use Rattle.std.proofs.Common.{◌≡◌, ◌∷◌, [], refl}
use Rattle.arachne_program.specs.declared.program.{Class.TheVariants.{Normal, Exclusive}, Operation.TheVariants.Add}
use Rattle.arachne_program.specs.declared.program.Reduction.TheVariants.{Sum, Least, Greatest}
use Rattle.arachne_program.specs.{Tree.{Number, Variable, Binary, Bind, Tally, Hold, Fork, Fold, Sweep}, Effects.Reduce}
use Rattle.arachne_machine.specs.{declared.pause.Pending.TheVariants.{Forks, Joins, Asks, Frees, Tallies}, Work.work_of}
use Rattle.arachne_machine.specs.Trace.{Step, At, with_steps, trace_of, task_trace}

-- one step for each node
sum : work_of [] (Binary Add (Number 1) (Number 2)) [] ≡ 3
sum = refl

sum_has_no_pause : trace_of [] (Binary Add (Number 1) (Number 2)) [] ≡ with_steps 3 []
sum_has_no_pause = refl

-- a sweep that is split three times
split : work_of [] (Sweep Sum 2 (Number 0) (Number 8) (Variable 0)) [] ≡ 25
split = refl

-- Its thread splits it twice, since the right half is its own. Each part begins with a step, and hands its value on in
-- another.
splits_twice : trace_of [] (Sweep Sum 2 (Number 0) (Number 8) (Variable 0)) []
    ≡ with_steps 4 (At Forks ∷ with_steps 1 (At Forks ∷ with_steps 4 (At Joins ∷ with_steps 1 (At Joins ∷ Step ∷ []))))
splits_twice = refl

-- the left half's thread, with a tally for each number
half : task_trace [] (Reduce Greatest 2 (Tally 0 (Variable 0) (Variable 0)) [] 3 2)
    ≡ with_steps 3 (At (Tallies 0 3) ∷ with_steps 3 (At (Tallies 0 4) ∷ with_steps 2 []))
half = refl

-- an empty sweep
none : work_of [] (Sweep Least 1 (Number 5) (Number 5) (Variable 0)) [] ≡ 5
none = refl

-- The lock is freed before the other side of the sum is begun, and the sum goes on with a step.
hold_in_a_sum : trace_of [] (Binary Add (Hold 0 (Number 5)) (Number 2)) [] ≡ with_steps 2 (At (Asks 0) ∷ with_steps 1 (At (Frees 0) ∷ with_steps 2 []))
hold_in_a_sum = refl

-- a tally within a hold comes before the lock is freed
tally_within : trace_of [] (Hold 1 (Tally 0 (Number 7) (Number 5))) [] ≡ Step ∷ At (Asks 1) ∷ with_steps 2 (At (Tallies 0 7) ∷ Step ∷ At (Frees 1) ∷ Step ∷ [])
tally_within = refl

-- an amount that is tallied itself
tally_of_a_tally : trace_of [] (Tally 0 (Tally 1 (Number 2) (Number 3)) (Number 5)) [] ≡ with_steps 3 (At (Tallies 1 2) ∷ Step ∷ At (Tallies 0 3) ∷ Step ∷ [])
tally_of_a_tally = refl

-- a hold between two bindings
hold_under_a_binding : trace_of [] (Bind (Number 4) (Hold 0 (Bind (Tally 0 (Variable 0) (Number 7)) (Tally 1 (Variable 1) (Number 0))))) []
    ≡ with_steps 3 (At (Asks 0) ∷ with_steps 3 (At (Tallies 0 4) ∷ with_steps 3 (At (Tallies 1 7) ∷ Step ∷ At (Frees 0) ∷ Step ∷ [])))
hold_under_a_binding = refl

-- The child's tally is in the child's trace. The tally made while the child runs comes before the join, and the tally
-- of the child's value after it.
meanwhile : trace_of [] (Fork Exclusive (Tally 0 (Number 1) (Number 4)) (Tally 1 (Number 2) (Number 0)) (Tally 2 (Variable 0) (Number 0))) []
    ≡ Step ∷ At Forks ∷ with_steps 2 (At (Tallies 1 2) ∷ Step ∷ At Joins ∷ with_steps 2 (At (Tallies 2 4) ∷ Step ∷ []))
meanwhile = refl

-- a second fork while the first child runs
nested : trace_of [] (Fork Normal (Number 1) (Fork Normal (Number 2) (Number 3) (Number 4)) (Number 5)) []
    ≡ Step ∷ At Forks ∷ Step ∷ At Forks ∷ Step ∷ At Joins ∷ Step ∷ At Joins ∷ Step ∷ []
nested = refl

-- the body of each iteration of a fold has its number and the value of the iteration before
turns : trace_of [] (Fold (Tally 2 (Number 0) (Number 3)) (Number 5) (Number 1) (Tally 0 (Variable 0) (Tally 1 (Variable 1) (Binary Add (Variable 0) (Variable 1))))) []
    ≡ with_steps 3 (At (Tallies 2 0) ∷ with_steps 5 (At (Tallies 0 3) ∷ with_steps 2 (At (Tallies 1 1)
    ∷ with_steps 5 (At (Tallies 0 4) ∷ with_steps 2 (At (Tallies 1 4) ∷ with_steps 4 [])))))
turns = refl
