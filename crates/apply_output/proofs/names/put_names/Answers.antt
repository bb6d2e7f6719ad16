use Rattle.apply_output.proofs.Naming.{naming}
use Rattle.apply_output.proofs.names.put_names.Goals as goal

pub loop-name-init : goal.loop-name-init
loop-name-init c = search naming

pub put_new-requires : goal.put_new-requires
put_new-requires c = search naming

pub returns-in_err-past : goal.returns-in_err-past
returns-in_err-past c = search naming

pub loop-name-preserved : goal.loop-name-preserved
loop-name-preserved c = search (naming, c.in_ok-past.was)
