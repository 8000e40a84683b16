use Rattle.std.proofs.Common.{◌≡◌, [], take, drop}
use Rattle.std.specs.HashSet.{contains}
use Rattle.std.specs.List.{filter_map, list_any}
use Rattle.jimple_names.specs.declared.members.Key.{Key}
use Rattle.jimple_names.specs.Tree.{field_in, method_in}
use Rattle.jimple_names.specs.Faults.{in_turn, member_fault}
use Rattle.jimple_names.specs.Keys.{same_key, has_key}
use Rattle.jimple_names.proofs.members.name_members.Given as goal

abbrev pub invariant-loop-member : goal.invariant-loop-member
invariant-loop-member l = record {
  seen : (q : Key) → contains same_key l.seen q ≡ list_any (has_key l.bytes q) (take l.member-index l.raw);
  fault : in_turn (member_fault l.bytes) [] l.raw ≡ in_turn (member_fault l.bytes) (take l.member-index l.raw) (drop l.member-index l.raw);
  fields : l.fields.items ≡ filter_map (field_in l.bytes) (take l.member-index l.raw);
  methods : l.methods.items ≡ filter_map (method_in l.bytes) (take l.member-index l.raw);
}
