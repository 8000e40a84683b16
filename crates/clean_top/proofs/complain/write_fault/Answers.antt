use Rattle.clean_top.proofs.complain.write_fault.Goals as goal

pub returns-in-BadByte : goal.returns-in-BadByte
returns-in-BadByte c = rw c.in-BadByte.is (rw c.file_of-in-BadByte.ensures at c.write_place.ensures)

pub returns-in-UnknownLocal : goal.returns-in-UnknownLocal
returns-in-UnknownLocal c = rw c.in-UnknownLocal.is (rw c.file_of-in-UnknownLocal.ensures at c.write_place-in-UnknownLocal.ensures)

pub returns-in-UnknownLabel : goal.returns-in-UnknownLabel
returns-in-UnknownLabel c = rw c.in-UnknownLabel.is (rw c.file_of-in-UnknownLabel.ensures at c.write_place-in-UnknownLabel.ensures)

pub returns-in-DoubleComponent : goal.returns-in-DoubleComponent
returns-in-DoubleComponent c = rw c.in-DoubleComponent.is (rw c.file_of-in-DoubleComponent.ensures at c.write_place-in-DoubleComponent.ensures)

pub returns-in-LimitClasses : goal.returns-in-LimitClasses
returns-in-LimitClasses c = rw c.in-LimitClasses.is c.write_whole.ensures

pub returns-in-Cycle : goal.returns-in-Cycle
returns-in-Cycle c = rw c.in-Cycle.is c.write_class_fault-in-Cycle.ensures

pub returns-in-LimitMethods : goal.returns-in-LimitMethods
returns-in-LimitMethods c = rw c.in-LimitMethods.is c.write_whole-in-LimitMethods.ensures

pub returns-in-EntryMissing : goal.returns-in-EntryMissing
returns-in-EntryMissing c = rw c.in-EntryMissing.is c.write_whole-in-EntryMissing.ensures

pub returns-in-LimitFields : goal.returns-in-LimitFields
returns-in-LimitFields c = rw c.in-LimitFields.is c.write_whole-in-LimitFields.ensures

pub returns-in-BadLine : goal.returns-in-BadLine
returns-in-BadLine c = rw c.in-BadLine.is (rw c.file_of-in-BadLine.ensures at c.write_place_and-in-BadLine.ensures)
