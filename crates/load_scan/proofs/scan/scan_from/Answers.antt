use Rattle.std.specs.Prelude.{Option}
use mathlib.Core.Path.{◌≡◌, sym, ◌∙◌, ap}
use mathlib.Core.List.{List}
use Prim.Native.Nat.{ℕ}
use denote.Ref.{Bor}
use Rattle.text_places.specs.Inner.NextLine.{next_line}
use Rattle.load_scan.proofs.Turning.{turning_starts, turning_ends, turning_line, turning_asks, turning_nearer}
use Rattle.load_scan.proofs.scan.scan_from.Goals as goal
use Rattle.text_places.specs.declared.lines.NextLine.{NextLine}

-- what the reader answered, said of the text
told : {s t : List ℕ} (at : ℕ) {r x : Option NextLine} → t ≡ s → r ≡ next_line t at → r ≡ x → next_line s at ≡ x
told at reads answer is = sym (answer ∙ ap (λ z. next_line z at) reads) ∙ is

pub scan_line-so_far-requires : goal.scan_line-so_far-requires
scan_line-so_far-requires c =
    turning_asks c.loop-start.invariant.turns (told c.loop-start.reader.at c.loop-start.invariant.reads c.line.ensures c.in-Some.is) c.requires.0

pub loop-start-smaller : goal.loop-start-smaller
loop-start-smaller c =
    let nearer = turning_nearer c.loop-start.invariant.turns (told c.loop-start.reader.at c.loop-start.invariant.reads c.line.ensures c.in-Some.is) in
    rw c.moved-reader-in-Some.ensures.1 nearer

pub loop-start-preserved : goal.loop-start-preserved
loop-start-preserved c =
    let (text_is, at_is) = c.moved-reader-in-Some.ensures in
    record {
      reads = ap (λ (t : Bor (List ℕ)). t.now) text_is ∙ c.loop-start.invariant.reads;
      turns =
          rw (at_is, c.scan_line-so_far.ensures)
          (turning_line c.loop-start.invariant.turns (told c.loop-start.reader.at c.loop-start.invariant.reads c.line.ensures c.in-Some.is));
    }

pub returns : goal.returns
returns c =
    c.ended.ensures
    ∙ turning_ends c.loop-start.invariant.turns (told c.loop-start.reader.at c.loop-start.invariant.reads c.line.ensures c.in_default.is)
