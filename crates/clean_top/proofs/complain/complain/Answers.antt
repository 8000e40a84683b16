use Rattle.clean_top.proofs.complain.complain.Goals as goal

pub returns-in-EdgeLimit-clause-line : goal.returns-in-EdgeLimit-clause-line
returns-in-EdgeLimit-clause-line g c = rw (c.as_bytes.ensures.value, c.as_str.ensures.value, c.limit_line.ensures) at c.say-in-EdgeLimit.ensures

pub returns-in-WriteFault-clause-line : goal.returns-in-WriteFault-clause-line
returns-in-WriteFault-clause-line g c = rw (c.as_bytes-in-WriteFault.ensures.value, c.as_str-in-WriteFault.ensures.value, c.write_fault_line.ensures) at c.say-in-WriteFault.ensures
