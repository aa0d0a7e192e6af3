-- Laws of the frames: the newest is the last.
use Rattle.std.proofs.Common.{◌≡◌, ◌≤◌, length-append, ℕ, zero, suc, ◌+◌, List, [], ◌∷◌, ◌++◌, length, refl, ap, sym, ◌∙◌, arith, append_assoc, append-nil}
use Rattle.arachne_program.specs.{Tree.Source, Effects.{Child, Effects, effects_of}, Program.tree_of}
use Rattle.arachne_machine.specs.Account.{Account, after, with_join}
use Rattle.arachne_machine.specs.Ending.{Status, unwind, accounted, account_joined, frame_work, frame_trace, resume, resume_account, resume_work, resume_trace, fork_of, forks_of, fork_here, forks_here, lock_of, releases}
use Rattle.arachne_machine.specs.{Trace.{Event, with_steps}, declared.frame.Frame.Frame}
use Rattle.arachne_machine.specs.declared.frame.Frame.TheVariants.{Index, Apply, Amount, Release, Join, Merge, JoinHere, MergeHere, FoldTo, FoldFirst, SweepTo, Restore}

pub resume-append : (source : Source) (name : List ℕ) (fs gs : List Frame) (s : Status) →
    resume source name (fs ++ gs) s ≡ resume source name fs (resume source name gs s)
resume-append source name [] gs s = refl
resume-append source name (f ∷ fs) gs s = ap (unwind source name f) (resume-append source name fs gs s)

pub resume_account-append : (source : Source) (name : List ℕ) (fs gs : List Frame) (s : Status) (a : Account) →
    resume_account source name (fs ++ gs) s a ≡ resume_account source name fs (resume source name gs s) (resume_account source name gs s a)
resume_account-append source name [] gs s a = refl
resume_account-append source name (f ∷ fs) gs s a =
    ap (λ s'. accounted source name f s' (resume_account source name (fs ++ gs) s a)) (resume-append source name fs gs s)
    ∙ ap (accounted source name f (resume source name fs (resume source name gs s))) (resume_account-append source name fs gs s a)

pub resume_work-append : (source : Source) (name : List ℕ) (fs gs : List Frame) (s : Status) →
    resume_work source name (fs ++ gs) s ≡ resume_work source name gs s + resume_work source name fs (resume source name gs s)
resume_work-append source name [] gs s = omega arith
resume_work-append source name (f ∷ fs) gs s =
    let e : frame_work source name f (resume source name (fs ++ gs) s) ≡ frame_work source name f (resume source name fs (resume source name gs s)) =
    ap (frame_work source name f) (resume-append source name fs gs s) in
    let h = resume_work-append source name fs gs s in
    omega (arith, e, h)

pub resume_trace-append : (source : Source) (name : List ℕ) (fs gs : List Frame) (s : Status) →
    resume_trace source name (fs ++ gs) s ≡ resume_trace source name gs s ++ resume_trace source name fs (resume source name gs s)
resume_trace-append source name [] gs s = sym (append-nil (resume_trace source name gs s))
resume_trace-append source name (f ∷ fs) gs s =
    let s' = resume source name gs s in
    let last = frame_trace source name f (resume source name fs s') in
    ap (λ x. resume_trace source name (fs ++ gs) s ++ frame_trace source name f x) (resume-append source name fs gs s)
    ∙ ap (λ l. l ++ last) (resume_trace-append source name fs gs s)
    ∙ append_assoc (resume_trace source name gs s) (resume_trace source name fs s') last

pub with_steps-append : (n : ℕ) (xs ys : List Event) → with_steps n (xs ++ ys) ≡ with_steps n xs ++ ys
with_steps-append zero xs ys = refl
with_steps-append (suc n) xs ys = ap (with_steps 1) (with_steps-append n xs ys)

pub with_steps-add : (m n : ℕ) (events : List Event) → with_steps (m + n) events ≡ with_steps m (with_steps n events)
with_steps-add zero n events = ap (λ k. with_steps k events) (omega arith)
with_steps-add (suc m) n events =
    let next : suc m + n ≡ suc (m + n) = omega arith in
    ap (λ k. with_steps k events) next ∙ ap (with_steps 1) (with_steps-add m n events)

pub forks_of-append : (fs gs : List Frame) → forks_of (fs ++ gs) ≡ forks_of gs ++ forks_of fs
forks_of-append [] gs = sym (append-nil (forks_of gs))
forks_of-append (f ∷ fs) gs = ap (λ l. l ++ fork_of f) (forks_of-append fs gs) ∙ append_assoc (forks_of gs) (forks_of fs) (fork_of f)

pub forks_here-append : (fs gs : List Frame) → forks_here (fs ++ gs) ≡ forks_here gs ++ forks_here fs
forks_here-append [] gs = sym (append-nil (forks_here gs))
forks_here-append (f ∷ fs) gs = ap (λ l. l ++ fork_here f) (forks_here-append fs gs) ∙ append_assoc (forks_here gs) (forks_here fs) (fork_here f)

pub releases-append : (fs gs : List Frame) → releases (fs ++ gs) ≡ releases gs ++ releases fs
releases-append [] gs = sym (append-nil (releases gs))
releases-append (f ∷ fs) gs = ap (λ l. l ++ lock_of f) (releases-append fs gs) ∙ append_assoc (releases gs) (releases fs) (lock_of f)

-- No frame removes a child that was forked.
pub record Grows (old new : List Child) : Type 0 where
  pub more : List Child
  pub is : new ≡ old ++ more

pub grows_on : (xs ys zs : List Child) → Grows xs ys → Grows ys zs → Grows xs zs
grows_on xs ys zs p q = record { more = p.more ++ q.more; is = q.is ∙ ap (λ l. l ++ q.more) p.is ∙ append_assoc xs p.more q.more }

grows_none : (xs : List Child) → Grows xs xs
grows_none xs = record { more = []; is = sym (append-nil xs) }

grows_after : (name : List ℕ) (e : Effects) (a : Account) → Grows a.children (after name e a).children
unfolding after
grows_after name e a = record { more = e.children; is = refl }

grows_twice : (name : List ℕ) (d e : Effects) (a : Account) → Grows a.children (after name e (after name d a)).children
grows_twice name d e a =
    grows_on a.children (after name d a).children (after name e (after name d a)).children (grows_after name d a) (grows_after name e (after name d a))

grows_joined : (source : Source) (name : List ℕ) (number : ℕ) (a : Account) → Grows a.children (account_joined source name number a).children
unfolding with_join
grows_joined source name number a = grows_none a.children

Grows-frame : (source : Source) (name : List ℕ) (f : Frame) (s : Status) (a : Account) → Grows a.children (accounted source name f s a).children
Grows-frame source name (Index array) s a = grows_none a.children
Grows-frame source name (Apply operation left) s a = grows_none a.children
Grows-frame source name (Amount ledger body) s a = grows_twice name _ _ a
Grows-frame source name (Release lock) s a = grows_none a.children
Grows-frame source name (Join number next) s a =
    let joined = account_joined source name number a in
    grows_on a.children joined.children (accounted source name (Join number next) s a).children (grows_joined source name number a) (grows_after name _ joined)
Grows-frame source name (Merge number reduction) s a = grows_joined source name number a
Grows-frame source name (JoinHere number child next) s a =
    let joined = account_joined source name number a in
    grows_on a.children joined.children (accounted source name (JoinHere number child next) s a).children (grows_joined source name number a) (grows_after name _ joined)
Grows-frame source name (MergeHere number left) s a = grows_joined source name number a
Grows-frame source name (FoldTo to first body) s a =
    let once = after name (effects_of source.arrays source.locks (tree_of to.now) s.env) a in
    grows_on a.children once.children (accounted source name (FoldTo to first body) s a).children (grows_after name _ a) (grows_twice name _ _ once)
Grows-frame source name (FoldFirst from first body) s a = grows_twice name _ _ a
Grows-frame source name (SweepTo reduction grain to body) s a = grows_twice name _ _ a
Grows-frame source name (Restore n) s a = grows_none a.children
Grows-frame source name _ s a = grows_after name _ a

pub Grows-frames : (source : Source) (name : List ℕ) (frames : List Frame) (s : Status) (a : Account) →
    Grows a.children (resume_account source name frames s a).children
Grows-frames source name [] s a = grows_none a.children
Grows-frames source name (frame ∷ frames) s a =
    grows_on a.children (resume_account source name frames s a).children
    (accounted source name frame (resume source name frames s) (resume_account source name frames s a)).children
    (Grows-frames source name frames s a)
    (Grows-frame source name frame (resume source name frames s) (resume_account source name frames s a))

at_most_one : (f : Frame) → length (fork_of f) ≤ 1
at_most_one (Join number next) = omega arith
at_most_one (Merge number reduction) = omega arith
at_most_one (JoinHere number child next) = omega arith
at_most_one (MergeHere number left) = omega arith
at_most_one _ = omega arith

-- there are no more forks than frames
pub length-forks_of : (frames : List Frame) → length (forks_of frames) ≤ length frames
length-forks_of [] = omega arith
length-forks_of (frame ∷ frames) =
    let one : length (fork_of frame) ≤ 1 = at_most_one frame in
    omega (arith, length-forks_of frames, one, length-append (forks_of frames) (fork_of frame))
