-- `load::fill::scan_all` meets its contract, by the laws of Deciding.
use Rattle.load.proofs.Deciding.{scanning_all}
use Rattle.load.proofs.fill.scan_all.Goals as goal

pub no_fates-requires : goal.no_fates-requires
no_fates-requires c = search scanning_all

pub scan_from-requires : goal.scan_from-requires
scan_from-requires c = search scanning_all

pub returns : goal.returns
returns c = search scanning_all
