-- What tells members apart, as keys. The pass over names is proved against it, and it against the faults.
use Rattle.std.specs.Prelude.{ℕ, ◌&&◌, Bool, true, false, nat_eq, List, [], ◌∷◌, map, Option, None}
use Rattle.std.specs.List.{filter_map}
use Rattle.std.specs.Option.{option_map}
use mathlib.Core.Bool.{beq}
use lib.Pointwise.{pointwise}
use Rattle.jimple_tree.specs.declared.tree.Body.{Body}
use Rattle.jimple_grammar.specs.declared.raw.RawBody.{RawBody}
use Rattle.jimple_grammar.specs.declared.raw.RawHead.{RawHead}
use Rattle.jimple_grammar.specs.declared.raw.RawMember.{RawMember}
use Rattle.jimple_grammar.specs.declared.raw.RawMember.TheVariants as members
use Rattle.jimple_grammar.specs.declared.raw.RawType.{RawType}
use Rattle.jimple_names.specs.declared.members.Key.{Key}
use Rattle.jimple_names.specs.declared.members.Members.{Members}
use Rattle.jimple_names.specs.declared.members.TypeKey.{TypeKey}
use Rattle.jimple_names.specs.declared.stop.NameFault.{NameFault}
use Rattle.jimple_names.specs.Texts.{name_of}
use Rattle.jimple_names.specs.Tree.{body_of, field_in, method_in}
use Rattle.jimple_names.specs.Faults.{optional_body_fault}

-- as `==` tells them apart
abbrev pub same_type_key : TypeKey → TypeKey → Bool
same_type_key a b = pointwise nat_eq a.base b.base && nat_eq a.dims b.dims

abbrev pub same_parts : Bool → List ℕ → List TypeKey → Key → Bool
same_parts method name types q = beq method q.is_method && (pointwise nat_eq name q.name && pointwise same_type_key types q.types.items)

abbrev pub same_key : Key → Key → Bool
same_key k q = same_parts k.is_method k.name k.types.items q

abbrev pub is_method : RawMember → Bool
is_method (members.Field h) = false
is_method (members.Method h m) = true

abbrev pub head_in : RawMember → RawHead
head_in (members.Field h) = h
head_in (members.Method h m) = h

module _ (bytes : List ℕ) where
  abbrev pub type_key : RawType → TypeKey
  type_key ty = record { base = name_of bytes ty.base; dims = ty.dims }

  abbrev pub types_in : RawMember → List TypeKey
  types_in (members.Field h) = type_key h.ty ∷ []
  types_in (members.Method h m) = type_key h.ty ∷ map type_key m.params

  -- the key is the member's
  abbrev pub has_key : Key → RawMember → Bool
  has_key q m = same_parts (is_method m) (name_of bytes (head_in m).name) (types_in m) q

  -- the first fault behind a member's name
  abbrev pub inner_fault : RawMember → Option NameFault
  inner_fault (members.Field h) = None
  inner_fault (members.Method h m) = optional_body_fault bytes m.body

  abbrev pub optional_body_of : Option RawBody → Option Body
  optional_body_of b = option_map (body_of bytes) b

  abbrev pub members_of : List RawMember → Members
  members_of ms = record { fields = filter_map (field_in bytes) ms; methods = filter_map (method_in bytes) ms }
