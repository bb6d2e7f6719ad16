-- `line_probes::lines::clumarief_probe_line_parts` meets its contract, by the laws of LineSaid.
use Rattle.line_probes.proofs.LineSaid.{said_lines}
use Rattle.line_probes.proofs.lines.clumarief_probe_line_parts.Goals as goal

pub comment_numbers-requires : goal.comment_numbers-requires
comment_numbers-requires c = search said_lines
