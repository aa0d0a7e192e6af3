-- Seats of several locks that are split, joined and closed together.
use Rattle.std.proofs.Common.{◌≡◌, ℕ, ◌+◌, ◌<◌, List, [], ◌∷◌, ◌++◌, length, get_or, set, map, take, drop, reverse, sym, ap, ◌∙◌, subst, arith, append_assoc, All}
use Rattle.std.specs.List.{AllZip}
use Rattle.std.proofs.lemmas.List.{append-nil, map_push, take_more, take_more_set, take_all, drop_more, drop-set-lt, length_push, length-take-le, reverse-append, get_or_append_left, nil_from_length}
use Rattle.std.proofs.{lemmas.Grind.drop_more_same, lemmas.List.Elements.{All-nil, All-cons}, Math.Seq.set-append_seam}
use Rattle.arachne_sleep.specs.{declared.event.LockEvent.LockEvent, History.IsSound, Calls.IsToldBy}
use Rattle.arachne_sleep.specs.{Views.{SeatView, joined_with}, SleepLocks.all_joined}

-- ---- a split: the first k are split, and the others are as they were

at-drop : (xs ys : List SeatView) (k : ℕ) (d : SeatView) → drop k xs ≡ drop k ys → k < length xs → k < length ys → get_or xs k d ≡ get_or ys k d
at-drop xs ys k d e in_xs in_ys = ap (λ (zs : List SeatView). get_or zs 0 d) (sym (drop_more xs k d in_xs) ∙ e ∙ drop_more ys k d in_ys)

module _ (seats own : List SeatView) (k : ℕ) (x : SeatView) (rest : drop k own ≡ drop k seats) (in_own : k < length own) (in_seats : k < length seats) (value : x ≡ get_or own k x) where
  same-seat : x ≡ get_or seats k x
  same-seat = value ∙ at-drop own seats k x rest in_own in_seats

  pub next-half : (half : SeatView → SeatView) (y : SeatView) → take k own ≡ map half (take k seats) → y ≡ half x → take (k + 1) (set own k y) ≡ map half (take (k + 1) seats)
  next-half half y done is =
      take_more_set own k y in_own
      ∙ (λ i. done i ++ (is ∙ ap half same-seat) i ∷ [])
      ∙ sym (map_push half (take k seats) (get_or seats k x))
      ∙ ap (map half) (sym (take_more seats k x in_seats))

  pub next-other : (half : SeatView → SeatView) (others : List SeatView) (y : SeatView) → others ≡ map half (take k seats) → y ≡ half x → others ++ y ∷ [] ≡ map half (take (k + 1) seats)
  next-other half others y done is =
      (λ i. done i ++ (is ∙ ap half same-seat) i ∷ [])
      ∙ sym (map_push half (take k seats) (get_or seats k x))
      ∙ ap (map half) (sym (take_more seats k x in_seats))

  pub next-rest : (y : SeatView) → drop (k + 1) (set own k y) ≡ drop (k + 1) seats
  next-rest y = drop-set-lt (k + 1) own k y (omega arith) ∙ drop_more_same own seats k rest

-- ---- a join: the last ones are joined, and the first ones are still to come

pub record AreJoining (seats others own left : List SeatView) : Type 0 where
  pub front : List SeatView
  pub back : List SeatView
  pub theirs : List SeatView
  pub seats_are : seats ≡ front ++ back
  pub others_are : others ≡ left ++ theirs
  pub own_are : own ≡ front ++ all_joined back theirs
  pub as_many : length front ≡ length left

pub none-joined : (seats others own left : List SeatView) → own ≡ seats → left ≡ others → length seats ≡ length others → AreJoining seats others own left
none-joined seats others own left same_own same_left n = record {
  front = seats;
  back = [];
  theirs = [];
  seats_are = sym (append-nil seats);
  others_are = sym same_left ∙ sym (append-nil left);
  own_are = same_own ∙ sym (append-nil seats);
  as_many = n ∙ ap length (sym same_left);
}

pub one-joined : (seats others own left left' : List SeatView) (k : ℕ) (x other y : SeatView) → AreJoining seats others own left → left ≡ left' ++ other ∷ [] → k ≡ length left'
    → x ≡ get_or own k x → y ≡ joined_with x other → AreJoining seats others (set own k y) left'
one-joined seats others own left left' k x other y a last at value is =
    let n : length a.front ≡ k + 1 = a.as_many ∙ ap length last ∙ length_push left' other ∙ ap (λ m. m + 1) (sym at) in
    let in_front : k < length a.front = omega (arith, n) in
    let joined_later = all_joined a.back a.theirs in
    let front = take k a.front in
    let s = get_or a.front k x in
    let parts : a.front ≡ front ++ s ∷ [] = sym (take_all (k + 1) a.front (omega (arith, n))) ∙ take_more a.front k x in_front in
    let long : length front ≡ k = length-take-le k a.front (omega (arith, in_front)) in
    let found : x ≡ s = value ∙ ap (λ (zs : List SeatView). get_or zs k x) a.own_are ∙ get_or_append_left a.front joined_later x k in_front in
    let before : own ≡ front ++ s ∷ joined_later = a.own_are ∙ ap (λ (zs : List SeatView). zs ++ joined_later) parts ∙ append_assoc front (s ∷ []) joined_later in
    record {
      front = front;
      back = s ∷ a.back;
      theirs = other ∷ a.theirs;
      seats_are = a.seats_are ∙ ap (λ (zs : List SeatView). zs ++ a.back) parts ∙ append_assoc front (s ∷ []) a.back;
      others_are = a.others_are ∙ ap (λ (zs : List SeatView). zs ++ a.theirs) last ∙ append_assoc left' (other ∷ []) a.theirs;
      own_are =
          ap (λ (zs : List SeatView). set zs k y) before
          ∙ ap (λ (m : ℕ). set (front ++ s ∷ joined_later) m y) (sym long)
          ∙ set-append_seam front s joined_later y
          ∙ ap (λ (z : SeatView). front ++ z ∷ joined_later) (is ∙ ap (λ (z : SeatView). joined_with z other) found);
      as_many = long ∙ at;
    }

-- ---- a close

-- the history of a closed lock, by the log of its seat
pub record IsClosedTo (seat : SeatView) (history : List LockEvent) : Type 0 where
  pub sound : IsSound history
  pub told : IsToldBy seat.log history

-- the last locks are closed, and the facts about each are in order, the last one first

pub record AreClosing {X : Type 0} (R : SeatView → X → Type 0) (seats left : List SeatView) (xs : List X) : Type 0 where
  pub closed : List SeatView
  pub seats_are : seats ≡ left ++ closed
  pub told : AllZip R closed (reverse xs)

pub none-closed : {X : Type 0} (R : SeatView → X → Type 0) (seats left : List SeatView) (xs : List X) → left ≡ seats → xs ≡ [] → AreClosing R seats left xs
none-closed {X} R seats left xs same none = record {
  closed = [];
  seats_are = sym same ∙ sym (append-nil left);
  told = subst (λ (ys : List X). AllZip R [] (reverse ys)) (sym none) tt;
}

pub one-closed : {X : Type 0} (R : SeatView → X → Type 0) (seats left left' : List SeatView) (xs : List X) (seat : SeatView) (x : X) → AreClosing R seats left xs → left ≡ left' ++ seat ∷ [] → R seat x
    → AreClosing R seats left' (xs ++ x ∷ [])
one-closed {X} R seats left left' xs seat x a last is = record {
  closed = seat ∷ a.closed;
  seats_are = a.seats_are ∙ ap (λ (zs : List SeatView). zs ++ a.closed) last ∙ append_assoc left' (seat ∷ []) a.closed;
  told = subst (λ (ys : List X). AllZip R (seat ∷ a.closed) ys) (sym (reverse-append xs (x ∷ []))) (is, a.told);
}

pub all-closed : {X : Type 0} (R : SeatView → X → Type 0) (seats left : List SeatView) (xs : List X) → AreClosing R seats left xs → length left ≡ 0 → AllZip R seats (reverse xs)
all-closed R seats left xs a none =
    subst (λ (zs : List SeatView). AllZip R zs (reverse xs)) (sym (a.seats_are ∙ ap (λ (zs : List SeatView). zs ++ a.closed) (nil_from_length left none))) a.told

-- the facts that R implies of each history, and of each history with its seat
pub each-right : {X : Type 0} (R : SeatView → X → Type 0) (P : X → Type 0) → ((seat : SeatView) (x : X) → R seat x → P x) → (seats : List SeatView) (xs : List X) → AllZip R seats xs → All P xs
each-right R P then [] [] all = All-nil P
each-right R P then [] (x ∷ xs) all = absurd all
each-right R P then (seat ∷ seats) [] all = absurd all
each-right R P then (seat ∷ seats) (x ∷ xs) all = All-cons P x xs (then seat x all.0) (each-right R P then seats xs all.1)

pub each-pair : {X : Type 0} (R Q : SeatView → X → Type 0) → ((seat : SeatView) (x : X) → R seat x → Q seat x) → (seats : List SeatView) (xs : List X) → AllZip R seats xs → AllZip Q seats xs
each-pair R Q then [] [] all = tt
each-pair R Q then [] (x ∷ xs) all = absurd all
each-pair R Q then (seat ∷ seats) [] all = absurd all
each-pair R Q then (seat ∷ seats) (x ∷ xs) all = (then seat x all.0, each-pair R Q then seats xs all.1)
