-- src/lib.rt:53:9
-- src/lib.rt:55:9
-- src/lib.rt:57:9
-- src/lib.rt:58:18
-- src/lib.rt:61:9
-- src/lib.rt:65:9
-- src/lib.rt:67:33
-- src/lib.rt:67:15
-- src/lib.rt:44:1
use Rattle.tree_probes.proofs.Saying.{saying}
use Rattle.tree_probes.proofs.clumarief_probe_node_signature.Goals as goal

pub node_signature-requires : goal.node_signature-requires
node_signature-requires c = search saying
