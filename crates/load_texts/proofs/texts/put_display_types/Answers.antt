-- `load_texts::texts::put_display_types` meets its contract, by the laws of Texting.
use Rattle.load_texts.proofs.Texting.{displaying}
use Rattle.load_texts.proofs.texts.put_display_types.Goals as goal

pub enum_known-body : goal.enum_known-body
enum_known-body c = search displaying

pub slice_bounds-put_raw_type-count : goal.slice_bounds-put_raw_type-count
slice_bounds-put_raw_type-count c = search displaying

pub slice_bounds-put_raw_type-start : goal.slice_bounds-put_raw_type-start
slice_bounds-put_raw_type-start c = search displaying

pub slice_bounds-put_raw_type-end : goal.slice_bounds-put_raw_type-end
slice_bounds-put_raw_type-end c = search displaying

pub put_raw_type-requires : goal.put_raw_type-requires
put_raw_type-requires c = search displaying

pub enum_known-body-in-Method-1 : goal.enum_known-body-in-Method-1
enum_known-body-in-Method-1 c = search displaying

pub slice_bounds-put_types-count : goal.slice_bounds-put_types-count
slice_bounds-put_types-count c = search displaying

pub slice_bounds-put_types-start : goal.slice_bounds-put_types-start
slice_bounds-put_types-start c = search displaying

pub slice_bounds-put_types-end : goal.slice_bounds-put_types-end
slice_bounds-put_types-end c = search displaying

pub slice_bounds-put_types-count-in-Method : goal.slice_bounds-put_types-count-in-Method
slice_bounds-put_types-count-in-Method c = search displaying

pub slice_bounds-put_types-start-in-Method : goal.slice_bounds-put_types-start-in-Method
slice_bounds-put_types-start-in-Method c = search displaying

pub slice_bounds-put_types-end-in-Method : goal.slice_bounds-put_types-end-in-Method
slice_bounds-put_types-end-in-Method c = search displaying

pub put_types-requires : goal.put_types-requires
put_types-requires c = search displaying

pub shape_of-pool-in-Field : goal.shape_of-pool-in-Field
shape_of-pool-in-Field c = search displaying

pub returns-in-Field : goal.returns-in-Field
returns-in-Field c = search displaying

pub shape_of-pool-in-Method : goal.shape_of-pool-in-Method
shape_of-pool-in-Method c = search displaying

pub returns-in-Method : goal.returns-in-Method
returns-in-Method c = search displaying
