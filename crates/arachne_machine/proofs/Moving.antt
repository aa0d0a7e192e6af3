-- The threads of a state are added behind those of another.
use Rattle.std.proofs.Common.{◌≡◌, ◌≢◌, ◌≤◌, ◌<◌, ◌^◌, append_assoc, get_or, length, length-append, ℕ, ◌+◌, true, false, List, [], ◌∷◌, ◌++◌, refl, ap, sym, ◌∙◌, subst, arith, take, drop, zero, suc, Bool, IsTrue, map, reverse}
use Rattle.std.proofs.lemmas.List.{drop_more, get_or-append-add, length-reverse, length-take-le, reverse-append, take-append-drop, take_more}
use Rattle.std.{proofs.Math.Seq.{drop-append-add, take-append-add, take-append_seam}, specs.Borrow.Bor}
use Rattle.arachne_program.specs.{declared.program.Program.Program, Program.source_of, Value.Environment}
use Rattle.arachne_machine.specs.declared.{frame.{Frame.Frame, Control.Control}, level.{Level.Level, Parent.Parent}}
use Rattle.arachne_machine.specs.{declared.{line.ThreadLine.ThreadLine, state.Own.Own}, Account.Account, Ending.ending}
use Rattle.arachne_machine.specs.Strands.{Fits, Owned, Strand, line_at, moved_level, moved_parents, moved_place, own_line, owned_at, owned_of, below_at, strand_at}
use Rattle.arachne_machine.specs.{Steps.{suspended, waiting}, Sound.{AreSound, IsRunningFor, IsSound, RunFor}}
use Rattle.arachne_machine.specs.{Runs.{last_of, works_left}, Nested.of_program}
use Rattle.arachne_machine.proofs.Copies.{IsCopy, copy_ending, copy_seen, copy_sound, copy_work}

-- the thread as one of this program
abbrev pub under : Bor Program → Strand → Strand
under program t = record t { program = program }

-- All of these are of one program.
abbrev pub Programs : Bor Program → List Strand → Type 0
Programs program [] = Unit {0}
Programs program (t ∷ ts) = (t.program ≡ program) × Programs program ts

pub programs_waiting : (program : Bor Program) (own : Own) (ps : List Parent) (lines : List ThreadLine) (frames : List Frame) (start place : ℕ) (env : Environment) →
    Programs program (waiting program own ps lines frames start place env)
programs_waiting program own [] lines frames start place env = tt
programs_waiting program own (p ∷ ps) lines frames start place env = (
  refl,
  programs_waiting program own ps (take place lines) (take start frames) p.level.start p.level.place
      (ending (strand_at program own ps (take place lines) p.level env (take start frames) p.control)).env,
)

pub copy_under : (program : Bor Program) (t : Strand) → source_of program.now ≡ source_of t.program.now → IsCopy t (under program t)
copy_under program t source = record { source = source; own = refl; below = refl; forks = refl; environment = refl; frames = refl; control = refl }

-- The lines behind one line of a list.
long : (before : List ThreadLine) (x : ThreadLine) → length (before ++ x ∷ []) ≡ length before + 1
long before x = length-append before (x ∷ [])

line_behind : (before lines : List ThreadLine) (x : ThreadLine) (n : ℕ) → line_at (before ++ x ∷ lines) (length before + 1 + n) ≡ line_at lines n
line_behind before lines x n =
    ap (λ l. line_at l (length before + 1 + n)) (sym (append_assoc before (x ∷ []) lines))
    ∙ ap (λ k. line_at ((before ++ x ∷ []) ++ lines) (k + n)) (sym (long before x)) ∙ get_or-append-add (before ++ x ∷ []) lines n _

drop_behind : (before lines : List ThreadLine) (x : ThreadLine) (n : ℕ) → drop (length before + 1 + n) (before ++ x ∷ lines) ≡ drop n lines
drop_behind before lines x n =
    ap (drop (length before + 1 + n)) (sym (append_assoc before (x ∷ []) lines))
    ∙ ap (λ k. drop (k + n) ((before ++ x ∷ []) ++ lines)) (sym (long before x)) ∙ drop-append-add (before ++ x ∷ []) lines n

take_behind : (before lines : List ThreadLine) (x : ThreadLine) (n : ℕ) → take (length before + 1 + n) (before ++ x ∷ lines) ≡ before ++ x ∷ take n lines
take_behind before lines x n =
    ap (take (length before + 1 + n)) (sym (append_assoc before (x ∷ []) lines))
    ∙ ap (λ k. take (k + n) ((before ++ x ∷ []) ++ lines)) (sym (long before x)) ∙ take-append-add (before ++ x ∷ []) lines n ∙ append_assoc before (x ∷ []) (take n lines)

seam_line : (xs ys : List ThreadLine) (x : ThreadLine) → line_at (xs ++ x ∷ ys) (length xs) ≡ x
seam_line xs ys x = ap (λ n. line_at (xs ++ x ∷ ys) n) (omega arith) ∙ get_or-append-add xs (x ∷ ys) 0 _

-- its own line is at its place
owned_moved : (own' own : Own) (q : Parent) (qs ps : List Parent) (before lines : List ThreadLine) (start place : ℕ) →
    owned_at own' (moved_parents start (length before) ps ++ q ∷ qs) (before ++ own_line own ∷ lines) (moved_place (length before) ps place) ≡ owned_at own ps lines place
owned_moved own' own q qs [] before lines start place = ap owned_of (seam_line before lines (own_line own))
owned_moved own' own q qs (p ∷ ps) before lines start place = ap owned_of (line_behind before lines (own_line own) place)

below_moved : (own : Own) (q : Parent) (qs ps : List Parent) (before lines : List ThreadLine) (start place : ℕ) →
    below_at (moved_parents start (length before) ps ++ q ∷ qs) (before ++ own_line own ∷ lines) (moved_place (length before) ps place) ≡ below_at ps lines place
below_moved own q qs [] before lines start place = drop-append-add before (own_line own ∷ lines) 1
below_moved own q qs (p ∷ ps) before lines start place =
    ap (λ n. drop n (before ++ own_line own ∷ lines)) (omega arith) ∙ drop_behind before lines (own_line own) (place + 1)

pub moved_strand : (program' program : Bor Program) (own' own : Own) (q : Parent) (qs ps : List Parent) (before lines : List ThreadLine) (under_it frames : List Frame) (level : Level) (env : Environment) (k : Control) →
    strand_at program' own' (moved_parents (length under_it) (length before) ps ++ q ∷ qs) (before ++ own_line own ∷ lines) (moved_level (length under_it) (length before) ps level) env (under_it ++ frames) k
    ≡ under program' (strand_at program own ps lines level env frames k)
moved_strand program' program own' own q qs ps before lines under_it frames level env k =
    let by : Owned → List ThreadLine → List Frame → Strand = λ o b f. record { program = program'; own = o; below = b; forks = level.forks; environment = env; frames = f; control = k } in
    let all = before ++ own_line own ∷ lines in
    let rs = moved_parents (length under_it) (length before) ps ++ q ∷ qs in
    let place = moved_place (length before) ps level.place in
    ap (λ o. by o (below_at rs all place) (drop (length under_it + level.start) (under_it ++ frames))) (owned_moved own' own q qs ps before lines (length under_it) level.place)
    ∙ ap (λ b. by (owned_at own ps lines level.place) b (drop (length under_it + level.start) (under_it ++ frames))) (below_moved own q qs ps before lines (length under_it) level.place)
    ∙ ap (λ f. by (owned_at own ps lines level.place) (below_at ps lines level.place) f) (drop-append-add under_it frames level.start)

-- The threads that wait, and behind them those of the other state.
pub moved_waiting : (program' program : Bor Program) (own' own : Own) (q : Parent) (qs : List Parent) (before : List ThreadLine) (under_it : List Frame) (left : Environment) → source_of program'.now ≡ source_of program.now →
    (ps : List Parent) (lines : List ThreadLine) (frames : List Frame) (start place most many : ℕ) (t : Strand) → Fits ps start place most many →
    (ending (last_of t (waiting program own ps lines frames start place (ending t).env))).env ≡ left →
    waiting program' own' (moved_parents (length under_it) (length before) ps ++ q ∷ qs) (before ++ own_line own ∷ lines) (under_it ++ frames) (length under_it + start) (moved_place (length before) ps place) (ending t).env
    ≡ map (under program') (waiting program own ps lines frames start place (ending t).env)
    ++ (let u = strand_at program' own' qs before q.level left under_it q.control in u ∷ waiting program' own' qs before under_it q.level.start q.level.place (ending u).env)
moved_waiting program' program own' own q qs before under_it left source [] lines frames start place most many t fits end =
    let by : List ThreadLine → List Frame → Environment → List Strand = λ l f e.
    let u = strand_at program' own' qs l q.level e f q.control in
    u ∷ waiting program' own' qs l f q.level.start q.level.place (ending u).env in
    ap (λ l. by l (take (length under_it + start) (under_it ++ frames)) (ending t).env) (take-append_seam before (own_line own ∷ lines))
    ∙ ap (λ f. by before f (ending t).env) (ap (λ n. take n (under_it ++ frames)) (omega (arith, fits)) ∙ take-append_seam under_it frames)
    ∙ ap (by before under_it) end
moved_waiting program' program own' own q qs before under_it left source (p ∷ ps) lines frames start place most many t fits end =
    let rs = moved_parents (length under_it) (length before) ps ++ q ∷ qs in
    let level = moved_level (length under_it) (length before) ps p.level in
    let all = before ++ own_line own ∷ take place lines in
    let v = strand_at program own ps (take place lines) p.level (ending t).env (take start frames) p.control in
    let by : List ThreadLine → List Frame → List Strand = λ l f.
    let u = strand_at program' own' rs l level (ending t).env f p.control in
    u ∷ waiting program' own' rs l f level.start level.place (ending u).env in
    ap (λ l. by l (take (length under_it + start) (under_it ++ frames))) (take_behind before lines (own_line own) place)
    ∙ ap (by all) (take-append-add under_it frames start)
    ∙ ap (λ u. u ∷ waiting program' own' rs all (under_it ++ take start frames) level.start level.place (ending u).env)
    (moved_strand program' program own' own q qs ps before (take place lines) under_it (take start frames) p.level (ending t).env p.control)
    ∙ ap (λ e. under program' v ∷ waiting program' own' rs all (under_it ++ take start frames) level.start level.place e.env) (copy_ending v (under program' v) (copy_under program' v source))
    ∙ ap (λ ts. under program' v ∷ ts) (moved_waiting program' program own' own q qs before under_it left source ps (take place lines) (take start frames) p.level.start p.level.place start place v fits.2 end)

-- All threads are sound, and the sums are theirs.
with_sums : (us : List Strand) (b c : ℕ → ℕ) → ((ledger : ℕ) → c ledger ≡ b ledger) → AreSound us b → AreSound us c
with_sums [] b c e h = λ ledger. e ledger ∙ h ledger
with_sums (u ∷ us) b c e h = (h.0, h.1, h.2, h.3, λ ledger. e ledger ∙ h.4 ledger)

pub all_sound : (program' program : Bor Program) → source_of program'.now ≡ source_of program.now → (ts us : List Strand) (a b c : ℕ → ℕ) → Programs program ts → ((ledger : ℕ) → c ledger ≡ a ledger + b ledger) →
    AreSound ts a → AreSound us b → AreSound (map (under program') ts ++ us) c
all_sound program' program source [] us a b c p e h g = with_sums us b c (λ ledger. omega (arith, e ledger, h ledger)) g
all_sound program' program source (t ∷ ts) us a b c p e h g =
    let copy = copy_under program' t (source ∙ ap (λ x. source_of x.now) (sym p.0)) in (
      h.0,
      (λ ledger. h.1 ledger + b ledger),
      copy_sound t (under program' t) h.0 copy h.2,
      all_sound program' program source ts us h.1 b (λ ledger. h.1 ledger + b ledger) p.1 (λ ledger. refl) h.3 g,
      (λ ledger. omega (arith, e ledger, h.4 ledger)),
    )

pub last_sound : (t : Strand) (ts : List Strand) (sums : ℕ → ℕ) → AreSound (t ∷ ts) sums → (account : Account) × IsSound (last_of t ts) account
last_sound t [] sums h = (h.0, h.2)
last_sound t (p ∷ ps) sums h = last_sound p ps h.1 h.3

run_under : (program : Bor Program) (t p : Strand) → IsRunningFor t p → IsRunningFor (under program t) (under program p)
run_under program t p h = record { number = h.number; awaits = h.awaits; named = h.named; in_place = h.in_place }

pub run_moved : (program : Bor Program) (t : Strand) (ts : List Strand) (u : Strand) (us : List Strand) → RunFor t ts → IsRunningFor (last_of t ts) u → RunFor u us →
    RunFor (under program t) (map (under program) ts ++ u ∷ us)
run_moved program t [] u us h one rest = (record { number = one.number; awaits = one.awaits; named = one.named; in_place = one.in_place }, rest)
run_moved program t (v ∷ vs) u us h one rest = (run_under program t v h.0, run_moved program v vs u us h.1 one rest)

pub fits_moved : (q : Parent) (qs : List Parent) (most many : ℕ) → Fits qs q.level.start q.level.place most many → (ps : List Parent) (start place frames lines : ℕ) → Fits ps start place frames lines →
    Fits (moved_parents most many ps ++ q ∷ qs) (most + start) (moved_place many ps place) (most + frames) (many + 1 + lines)
fits_moved q qs most many h [] start place frames lines fits = (
  omega (arith, fits),
  omega arith,
  subst (λ n. Fits qs q.level.start q.level.place n many) (omega (arith, fits)) h,
)
fits_moved q qs most many h (p ∷ ps) start place frames lines fits = (
  omega (arith, fits.0),
  omega (arith, fits.1),
  fits_moved q qs most many h ps p.level.start p.level.place start place fits.2,
)

pub seen_under : (program' program : Bor Program) → source_of program'.now ≡ source_of program.now → (ts : List Strand) → Programs program ts → map suspended (map (under program') ts) ≡ map (of_program program'.now) (map suspended ts)
seen_under program' program source [] p = refl
seen_under program' program source (t ∷ ts) p =
    ap (λ s. s ∷ map suspended (map (under program') ts)) (copy_seen t (under program' t) (copy_under program' t (source ∙ ap (λ x. source_of x.now) (sym p.0))))
    ∙ ap (λ ss. of_program program'.now (suspended t) ∷ ss) (seen_under program' program source ts p.1)

pub works_moved : (program' program : Bor Program) → source_of program'.now ≡ source_of program.now → (ts us : List Strand) → Programs program ts → works_left (map (under program') ts ++ us) ≡ works_left ts + works_left us
works_moved program' program source [] us p = omega arith
works_moved program' program source (t ∷ ts) us p =
    omega (arith, copy_work t (under program' t) (copy_under program' t (source ∙ ap (λ x. source_of x.now) (sym p.0))), works_moved program' program source ts us p.1)

-- A level that is moved behind others, if it is the outermost and if not.
pub moved_is : (start place : ℕ) (ps : List Parent) (level result : Level) (outermost : Bool) → (IsTrue outermost → ps ≡ []) → (outermost ≡ false → ps ≢ []) →
    (IsTrue outermost → result ≡ record { start = start + level.start; forks = level.forks; place = place }) →
    (outermost ≡ false → result ≡ record { start = start + level.start; forks = level.forks; place = place + 1 + level.place }) → result ≡ moved_level start place ps level
moved_is start place [] level result true none some f g = f refl
moved_is start place [] level result false none some f g = absurd (some refl refl)
moved_is start place (p ∷ ps) level result true none some f g = cc (none refl)
moved_is start place (p ∷ ps) level result false none some f g = g refl

-- One of the threads that wait, the outermost first.
pub parent_at : (xs : List Parent) (i : ℕ) (d : Parent) → i < length xs → reverse xs ≡ reverse (drop (i + 1) xs) ++ (get_or xs i d ∷ reverse (take i xs))
parent_at xs i d lt =
    let p = get_or xs i d in
    ap reverse (sym (take-append-drop i xs) ∙ ap (λ l. take i xs ++ l) (drop_more xs i d lt)) ∙ reverse-append (take i xs) (p ∷ drop (i + 1) xs)
    ∙ ap (λ l. l ++ reverse (take i xs)) (reverse-append (p ∷ []) (drop (i + 1) xs)) ∙ append_assoc (reverse (drop (i + 1) xs)) (p ∷ []) (reverse (take i xs))

pub parents_up_to : (xs : List Parent) (i : ℕ) (d : Parent) → i < length xs → reverse (take (i + 1) xs) ≡ get_or xs i d ∷ reverse (take i xs)
parents_up_to xs i d lt = ap reverse (take_more xs i d lt) ∙ reverse-append (take i xs) (get_or xs i d ∷ [])

-- Each level fits.
pub fits_top : (ps : List Parent) (from at frames lines : ℕ) → Fits ps from at frames lines → (from ≤ frames) × (ps ≢ [] → at < lines)
fits_top [] from at frames lines h = (omega (arith, h), λ some. absurd (some refl))
fits_top (p ∷ ps) from at frames lines h = (h.0, λ some. h.1)

pub fits_within : (ys zs : List Parent) (p : Parent) (from at frames lines : ℕ) → Fits (ys ++ p ∷ zs) from at frames lines → (p.level.start ≤ frames) × (zs ≢ [] → p.level.place < lines)
fits_within [] zs p from at frames lines h =
    let on = fits_top zs p.level.start p.level.place from at h.2 in
    (omega (arith, on.0, h.0), λ some. let lt = on.1 some in omega (arith, lt, h.1))
fits_within (y ∷ ys) zs p from at frames lines h =
    let on = fits_within ys zs p y.level.start y.level.place from at h.2 in
    (omega (arith, on.0, h.0), λ some. let lt = on.1 some in omega (arith, lt, h.1))

pub some_before : (xs : List Parent) (i : ℕ) → i < length xs → 0 < i → reverse (take i xs) ≢ []
some_before xs i lt more none = omega (arith, ap length none, length-reverse (take i xs), length-take-le i xs (omega (arith, lt)), more)

pub none_before : (xs : List Parent) (i : ℕ) → i ≡ 0 → reverse (take i xs) ≡ []
none_before xs i e = ap (λ n. reverse (take n xs)) e

pub positive : (i : ℕ) → i ≢ 0 → 0 < i
positive zero h = absurd (h refl)
positive (suc n) h = omega arith

-- The bounds of one of the levels.
pub record Bounded (start place : ℕ) (xs : List Parent) (i : ℕ) (p : Parent) : Type 0 where
  pub start_fits : start + p.level.start < 2 ^ 64
  pub place_fits : 0 < i → place + 1 + p.level.place < 2 ^ 64

pub bounded : (start place : ℕ) (xs : List Parent) (i from at frames lines : ℕ) (d : Parent) → i < length xs → Fits (reverse xs) from at frames lines → start + frames < 2 ^ 64 → place + 1 + lines < 2 ^ 64 →
    Bounded start place xs i (get_or xs i d)
bounded start place xs i from at frames lines d lt fits few less =
    let on = fits_within (reverse (drop (i + 1) xs)) (reverse (take i xs)) (get_or xs i d) from at frames lines (subst (λ l. Fits l from at frames lines) (parent_at xs i d lt) fits) in
    record {
      start_fits = omega (arith, on.0, few);
      place_fits = λ more. let in_lines = on.1 (some_before xs i lt more) in omega (arith, in_lines, less);
    }

pub some_parents : (xs : List Parent) (n : ℕ) → length xs ≡ n → n ≢ 0 → reverse xs ≢ []
some_parents xs n long some none = some (omega (arith, long, ap length none, length-reverse xs))

pub no_parents : (xs : List Parent) (n : ℕ) → length xs ≡ n → n ≡ 0 → reverse xs ≡ []
no_parents [] n long none = refl
no_parents (x ∷ xs) n long none = absurd (omega (arith, long, none))
