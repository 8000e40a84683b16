use Rattle.access_path.specs.Paths.{sleep}
use Rattle.flow_rules.specs.Border.{ComesOut}
use Rattle.flow_rules.proofs.Lifted.{only_image}
use Rattle.border_flow.proofs.caller.comes_behind.Goals as goal

pub returns : goal.returns
returns c = only_image (ComesOut c.args.call.now c.args.t.now) (sleep c.args.call.now.stmt) _ _ c.brought.ensures.only c.put_to_sleep.ensures
