-- `load_texts::texts::put_owner` meets its contract, by the laws of Texting.
use Rattle.load_texts.proofs.Texting.{owning}
use Rattle.load_texts.proofs.texts.put_owner.Goals as goal

pub enum_told-1 : goal.enum_told-1
enum_told-1 c = search owning

pub put_text-requires : goal.put_text-requires
put_text-requires c = search owning

pub enum_known-body : goal.enum_known-body
enum_known-body c = search owning

pub enum_known-named : goal.enum_known-named
enum_known-named c = search owning

pub slice_bounds-put_class-count : goal.slice_bounds-put_class-count
slice_bounds-put_class-count c = search owning

pub slice_bounds-put_class-start : goal.slice_bounds-put_class-start
slice_bounds-put_class-start c = search owning

pub slice_bounds-put_class-end : goal.slice_bounds-put_class-end
slice_bounds-put_class-end c = search owning

pub put_class-requires : goal.put_class-requires
put_class-requires c = search owning

pub enum_told-in-Plain : goal.enum_told-in-Plain
enum_told-in-Plain c = search owning

pub put_class-requires-in-Plain : goal.put_class-requires-in-Plain
put_class-requires-in-Plain c = search owning

pub shape_of-pool-in-Field : goal.shape_of-pool-in-Field
shape_of-pool-in-Field c = search owning

pub returns-in-Field : goal.returns-in-Field
returns-in-Field c = search owning

pub shape_of-pool-in-Owned : goal.shape_of-pool-in-Owned
shape_of-pool-in-Owned c = search owning

pub returns-in-Owned : goal.returns-in-Owned
returns-in-Owned c = search owning

pub shape_of-pool-in-Plain : goal.shape_of-pool-in-Plain
shape_of-pool-in-Plain c = search owning

pub returns-in-Plain : goal.returns-in-Plain
returns-in-Plain c = search owning
