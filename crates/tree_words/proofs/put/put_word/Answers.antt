-- `tree_words::put::put_word` meets its contract, by the laws of PutWording.
use Rattle.tree_words.proofs.PutWording.{put_wording}
use Rattle.tree_words.proofs.put.put_word.Goals as goal

pub overflow_cast-out : goal.overflow_cast-out
overflow_cast-out c = search put_wording

pub bounds-out-at : goal.bounds-out-at
bounds-out-at c = search put_wording

pub overflow_cast-out-2 : goal.overflow_cast-out-2
overflow_cast-out-2 c = search put_wording

pub overflow_add-out : goal.overflow_add-out
overflow_add-out c = search put_wording

pub bounds-out-at-2 : goal.bounds-out-at-2
bounds-out-at-2 c = search put_wording

pub overflow_cast-out-3 : goal.overflow_cast-out-3
overflow_cast-out-3 c = search put_wording

pub overflow_add-out-2 : goal.overflow_add-out-2
overflow_add-out-2 c = search put_wording

pub bounds-out-at-3 : goal.bounds-out-at-3
bounds-out-at-3 c = search put_wording

pub overflow_cast-out-4 : goal.overflow_cast-out-4
overflow_cast-out-4 c = search put_wording

pub overflow_add-out-3 : goal.overflow_add-out-3
overflow_add-out-3 c = search put_wording

pub bounds-out-at-4 : goal.bounds-out-at-4
bounds-out-at-4 c = search put_wording

pub shape_of-out : goal.shape_of-out
shape_of-out c = search put_wording

pub returns : goal.returns
returns c = search put_wording
