-- What became of the lines that were read with the class line or the member line before them.
use Rattle.std.specs.Prelude.{◌+◌}
use Rattle.load_rule.specs.declared.Fates.{Fates}
use Rattle.load_residual.specs.declared.residual.Passed.{Passed}

abbrev pub passed_fates : Passed → Fates
passed_fates k =
    record {
      lines = k.blank + k.applied + k.idle;
      blank = k.blank;
      applied = k.applied;
      idle = k.idle;
      class = 0;
      field = 0;
      method = 0;
      short = 0;
    }
