-- `apply_output::names::put_names` meets its contract, by the laws of Naming and an invariant that says what is done and what is left.
use Rattle.apply_output.proofs.Naming.{Naming}
use Rattle.apply_output.proofs.names.put_names.Given as goal

abbrev pub invariant-loop-name : goal.invariant-loop-name
invariant-loop-name l = Naming l.index l.classes l.pool l.counts l.tree l.count l.initial.out l.out l.name l.end
