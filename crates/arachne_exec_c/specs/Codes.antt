-- The codes that calls return to C.
use Rattle.std.specs.Prelude.{ℕ}

abbrev pub done : ℕ
done = 0

abbrev pub refused : ℕ
refused = 1

abbrev pub no_memory : ℕ
no_memory = 2

abbrev pub contended : ℕ
contended = 3

abbrev pub lost : ℕ
lost = 4

abbrev pub granted : ℕ
granted = 5

abbrev pub queued : ℕ
queued = 6

abbrev pub already_in : ℕ
already_in = 7

abbrev pub freed : ℕ
freed = 8

abbrev pub handed_on : ℕ
handed_on = 9

abbrev pub not_holder : ℕ
not_holder = 10

abbrev pub left : ℕ
left = 11

abbrev pub full : ℕ
full = 12

abbrev pub run : ℕ
run = 13

abbrev pub park : ℕ
park = 14

abbrev pub again : ℕ
again = 15

abbrev pub ready : ℕ
ready = 16

abbrev pub blocked : ℕ
blocked = 17

abbrev pub marked : ℕ
marked = 18

abbrev pub already_marked : ℕ
already_marked = 19

abbrev pub gone : ℕ
gone = 20

abbrev pub stay : ℕ
stay = 21

abbrev pub add : ℕ
add = 22

abbrev pub remove : ℕ
remove = 23

abbrev pub nobody : ℕ
nobody = 64
