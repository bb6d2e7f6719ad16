-- `capi::loading::clumarief_parse_str` meets its contract, from the promise of the function that it calls.
use mathlib.Core.Path.{◌∙◌, ap}
use borrow.Author.Rules.{rules}
use Rattle.capi.specs.Answers.{answer_numbers}
use Rattle.capi.proofs.loading.clumarief_parse_str.Goals as goal

pub parse_str-load-requires : goal.parse_str-load-requires
parse_str-load-requires c = search rules

pub load_numbers-requires : goal.load_numbers-requires
load_numbers-requires c = search rules

pub shape_of-classes : goal.shape_of-classes
shape_of-classes c = search rules

pub shape_of-members : goal.shape_of-members
shape_of-members c = search rules

pub shape_of-pool : goal.shape_of-pool
shape_of-pool c = search rules

pub returns : goal.returns
returns c = let l = c.parse_str-load.ensures in (c.load_numbers.ensures ∙ ap answer_numbers l.0, l.1, l.2, l.3)
