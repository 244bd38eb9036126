-- A result area: what a call hands back, in words.
use Rattle.std.specs.Prelude.{List, [], ◌∷◌, ◌++◌, ℕ, drop}
use Rattle.rules.specs.Calls.{Answer}

-- number, value and count
abbrev pub result_words : ℕ
result_words = 3

-- the three words of an answer
unfoldable pub answer_words : Answer → List ℕ
answer_words a = a.number ∷ (a.value ∷ (a.count ∷ []))

-- a result area with an answer at its front
unfoldable pub answered : Answer → List ℕ → List ℕ
answered a result = answer_words a ++ drop result_words result
