-- Ways into a tree, and where they lead.
use Rattle.std.specs.Prelude.{List, map}
use Rattle.hv_tree.specs.declared.place.Place.{Place}
use Rattle.hv_value.specs.Walk.{ToField, ToIndex, Reached, Reaches, Outside, Lost}
use Rattle.hv_value.specs.Walk as walk
use Rattle.hv_partial.specs.declared.way.Link.{Link}
use Rattle.hv_partial.specs.declared.way.Link.TheVariants as link
use Rattle.hv_partial.specs.declared.way.Way.{Way}
use Rattle.hv_partial.specs.declared.way.Way.TheVariants as way

-- a step whose index carries its place
abbrev pub link_of : Link → walk.Link Place
link_of (link.Field k) = ToField k
link_of (link.Index z at) = ToIndex z at

abbrev pub links_of : List Link → List (walk.Link Place)
links_of ls = map link_of ls

-- where a way leads, without what stands there
abbrev pub way_of : Reached Place → Way
way_of (Reaches p t) = way.Reaches p
way_of (Outside at) = way.Outside at
way_of Lost = way.Lost
