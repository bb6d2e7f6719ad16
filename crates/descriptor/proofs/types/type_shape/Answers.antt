-- `descriptor::types::type_shape` meets its contract, by the laws of Typing.
use Rattle.descriptor.proofs.Typing.{shaping}
use Rattle.descriptor.proofs.types.type_shape.Goals as goal

pub slice_bounds-without_brackets-end : goal.slice_bounds-without_brackets-end
slice_bounds-without_brackets-end c = search shaping

pub overflow_add-end : goal.overflow_add-end
overflow_add-end c = search shaping

pub slice_bounds-base_kind-end : goal.slice_bounds-base_kind-end
slice_bounds-base_kind-end c = search shaping
