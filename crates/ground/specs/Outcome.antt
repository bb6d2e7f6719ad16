-- Document 01 "How strong a promise is": "a proof shows that the promise leaves one outcome".
use Rattle.std.specs.Prelude.{◌≡◌}

-- two outcomes that meet a promise are the same
abbrev pub OneOutcome : {A : Type 0} → (A → Type 0) → Type 0
OneOutcome {A} promise = (a b : A) → promise a → promise b → a ≡ b
