-- The codes that calls return to C.
use Rattle.std.specs.Prelude.{ℕ}

abbrev pub done : ℕ
done = 0

abbrev pub refused : ℕ
refused = 1

abbrev pub no_memory : ℕ
no_memory = 2

abbrev pub hello : ℕ
hello = 3

abbrev pub join : ℕ
join = 4

abbrev pub wait : ℕ
wait = 5

abbrev pub ask : ℕ
ask = 6

abbrev pub short : ℕ
short = 7

abbrev pub kind : ℕ
kind = 8

abbrev pub version : ℕ
version = 9

abbrev pub priority : ℕ
priority = 10

abbrev pub place : ℕ
place = 11

abbrev pub unused : ℕ
unused = 12

abbrev pub nothing : ℕ
nothing = 13

abbrev pub taken : ℕ
taken = 14

abbrev pub placed : ℕ
placed = 15

abbrev pub granted : ℕ
granted = 16
