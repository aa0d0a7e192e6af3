-- The numbering of contexts by place: context `c * slots + i` stands at first at index i of core c.
use Rattle.std.specs.Prelude.{ℕ, ◌+◌, ◌*◌, ◌/◌, ◌%◌, Bool, ◌&&◌, ◌==◌}
use Rattle.arachne_core.specs.declared.place.Place.{Place}

-- the place at which a context stands at first, if each core has `slots` places
abbrev pub first_place : ℕ → ℕ → Place
first_place slots context = record { core = context / slots; index = context % slots }

-- the context that stands at a place at first
abbrev pub number_of : ℕ → Place → ℕ
number_of slots p = p.core * slots + p.index

abbrev pub same_place : Place → Place → Bool
same_place p q = (p.core == q.core) && (p.index == q.index)
