-- The marks of the cores that threads have.
use Rattle.std.proofs.Common.{◌≡◌, ℕ, ◌+◌, ◌<◌, Bool, true, false, Option, Some, None, List, [], length, get_or, set, replicate, refl, ap, sym, ◌∙◌, subst, inl, inr, arith, below_more}
use Rattle.std.proofs.lemmas.Bool.{cases_eq, cases_lt, false≢true}
use Rattle.std.proofs.lemmas.List.{get_or-set_same, get_or-set_other, length-set, get_or_past, set_past, get_or-replicate, length-replicate}
use Rattle.arachne_grants.specs.declared.sessions.Session.{Session}
use Rattle.arachne_grants.specs.declared.sessions.ClientThread.{ClientThread}
use Rattle.arachne_grants.specs.declared.sessions.ClientThread.TheVariants.{Absent}
use Rattle.arachne_grants.specs.Sessions.{core_of, core_at, session_at, slice_thread, with_mark, AreMarked, IsFree, IsTaken}

pub AreMarked-none : (marks : List Bool) (threads : List ClientThread) → AreMarked marks marks threads 0
AreMarked-none marks threads = record {
  same = refl;
  marked = λ place core h within is. absurd (omega arith);
  kept = λ core is. is;
  only = λ core is. inl is;
}

-- a thread without a core
AreMarked-skip : (old new : List Bool) (threads : List ClientThread) (n : ℕ) → AreMarked old new threads n
    → core_of (slice_thread threads n) ≡ None → AreMarked old new threads (n + 1)
AreMarked-skip old new threads n was none = record {
  same = was.same;
  marked = λ place core h within is. below_more (λ (p : ℕ). core_of (slice_thread threads p) ≡ Some core → get_or new core false ≡ true) n
      (λ p below. was.marked p core below within) (λ has. absurd (let both : None ≡ Some core = sym none ∙ has in cc)) place h is;
  kept = was.kept;
  only = was.only;
}

-- a thread's core
AreMarked-core : (old new : List Bool) (threads : List ClientThread) (n core : ℕ) → AreMarked old new threads n
    → core_of (slice_thread threads n) ≡ Some core → AreMarked old (set new core true) threads (n + 1)
AreMarked-core old new threads n core was has =
    let other : (k : ℕ) → get_or new k false ≡ true → get_or (set new core true) k false ≡ true = λ k is. elim (cases_eq k core) [
      | inl same ↦ elim (cases_lt core (length new)) [
        | inl h ↦ subst (λ (j : ℕ). get_or (set new core true) j false ≡ true) (sym same) (get_or-set_same new core true false h)
        | inr past ↦ ap (λ (xs : List Bool). get_or xs k false) (set_past new core true past) ∙ is
      ]
      | inr ne ↦ get_or-set_other new core k true false ne ∙ is
    ] in
    record {
      same = length-set new core true ∙ was.same;
      marked = λ place k below within is. below_more (λ (p : ℕ). core_of (slice_thread threads p) ≡ Some k → get_or (set new core true) k false ≡ true) n
          (λ p less mine. other k (was.marked p k less within mine))
          (λ mine.
          let both : Some core ≡ Some k = sym has ∙ mine in
          let e : core ≡ k = cc in
          let h : core < length new = (let s = was.same in omega arith) in
          subst (λ (j : ℕ). get_or (set new core true) j false ≡ true) e (get_or-set_same new core true false h))
          place below is;
      kept = λ k is. other k (was.kept k is);
      only = λ k is. elim (cases_eq k core) [
        | inl same ↦ inr (n, has ∙ ap (λ (j : ℕ). let o : Option ℕ = Some j in o) (sym same))
        | inr ne ↦ was.only k (sym (get_or-set_other new core k true false ne) ∙ is)
      ];
    }

AreMarked-option : (old new : List Bool) (threads : List ClientThread) (n : ℕ) (core : Option ℕ) → AreMarked old new threads n
    → core_of (slice_thread threads n) ≡ core → AreMarked old (with_mark core new) threads (n + 1)
AreMarked-option old new threads n None was is = AreMarked-skip old new threads n was is
AreMarked-option old new threads n (Some core) was is = AreMarked-core old new threads n core was is

pub AreMarked-more : (old new : List Bool) (threads : List ClientThread) (n : ℕ) → AreMarked old new threads n
    → AreMarked old (with_mark (core_of (slice_thread threads n)) new) threads (n + 1)
AreMarked-more old new threads n was = AreMarked-option old new threads n _ was refl

-- the cores that threads of the first n clients have are marked, and no others
pub record AreAllMarked (sessions : List Session) (marks : List Bool) (n : ℕ) : Type 0 where
  pub sized : length marks ≡ 1024
  pub marked : (client place core : ℕ) → client < n → core < 1024 → core_at sessions client place ≡ Some core → get_or marks core false ≡ true
  pub only : (core : ℕ) → get_or marks core false ≡ true → IsTaken sessions core

pub AreAllMarked-none : (sessions : List Session) (marks : List Bool) → length marks ≡ 1024 → ((core : ℕ) → get_or marks core false ≡ false)
    → AreAllMarked sessions marks 0
AreAllMarked-none sessions marks sized none = record {
  sized = sized;
  marked = λ client place core h within is. absurd (omega arith);
  only = λ core is. absurd (false≢true (sym (none core) ∙ is));
}

-- a thread that has a core is one of the client's
has-within : (threads : List ClientThread) (place core : ℕ) → core_of (slice_thread threads place) ≡ Some core → place < length threads
has-within threads place core is =
    elim (cases_lt place (length threads)) [
      | inl within ↦ within
      | inr past ↦ absurd (let none : core_of (slice_thread threads place) ≡ None = ap core_of (get_or_past threads place Absent past) in let both : None ≡ Some core = sym none ∙ is in cc)
    ]

pub AreAllMarked-more : (sessions : List Session) (marks new : List Bool) (n : ℕ) → AreAllMarked sessions marks n
    → AreMarked marks new (session_at sessions n).threads (length (session_at sessions n).threads) → AreAllMarked sessions new (n + 1)
AreAllMarked-more sessions marks new n was more = record {
  sized = more.same ∙ was.sized;
  marked = λ client place core below within is. below_more (λ (k : ℕ). core_at sessions k place ≡ Some core → get_or new core false ≡ true) n
      (λ k less has. more.kept core (was.marked k place core less within has))
      (λ has. more.marked place core (has-within (session_at sessions n).threads place core has) (let s = was.sized in omega arith) has)
      client below is;
  only = λ core is. elim (more.only core is) [
    | inl old ↦ was.only core old
    | inr here ↦ (n, (here.0, here.1))
  ];
}

-- a core without a mark is free
pub IsFree-unmarked : (sessions : List Session) (marks : List Bool) (core : ℕ) → AreAllMarked sessions marks (length sessions) → core < 1024
    → get_or marks core false ≡ false → IsFree sessions core
IsFree-unmarked sessions marks core all within unmarked client place is =
    elim (cases_lt client (length sessions)) [
      | inl below ↦ absurd (false≢true (sym unmarked ∙ all.marked client place core below within is))
      | inr past ↦ absurd (
          let none : core_at sessions client place ≡ None = ap (λ (s : Session). core_of (slice_thread s.threads place)) (get_or_past sessions client _ past) ∙ ap core_of (get_or_past [] place Absent (omega arith)) in
          let both : None ≡ Some core = sym none ∙ is in cc)
    ]

pub unmarked : (n core : ℕ) → get_or (replicate n false) core false ≡ false
unmarked n core =
    elim (cases_lt core n) [
      | inl within ↦ get_or-replicate n core false false within
      | inr past ↦ get_or_past (replicate n false) core false (let s = length-replicate {A = Bool} n false in omega arith)
    ]
