-- `text_probes::clumarief_probe_trim` meets its contract, by the laws of Said.
use Rattle.text_probes.proofs.Said.{counted}
use Rattle.text_probes.proofs.clumarief_probe_trim.Goals as goal

pub place_number-requires : goal.place_number-requires
place_number-requires c = search counted

pub place_number-requires-2 : goal.place_number-requires-2
place_number-requires-2 c = search counted
