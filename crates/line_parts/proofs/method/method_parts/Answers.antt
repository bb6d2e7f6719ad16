-- `line_parts::method::method_parts` meets its contract, by the laws of Methods.
use Rattle.line_parts.proofs.Methods.{ranging}
use Rattle.line_parts.proofs.method.method_parts.Goals as goal

pub method_from-requires-2 : goal.method_from-requires-2
method_from-requires-2 c = search ranging
