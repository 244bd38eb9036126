-- P1 to P10 and the listing, as the planner's own contracts hand them back: the table of rules/specs/Checked.antt, each example opened by the
-- planner and carried out call by call, on any words lent.
use Rattle.std.specs.Prelude.{Bool, true, cond, ◌&&◌, List, [], ◌∷◌, ◌++◌, ℕ, eqb, replicate}
use Rattle.rules.specs.Calls.{Answer, Call, declare, withdraw, release, advance}
use Rattle.rules.specs.Checked.{Line, OK, NO, Example, on, cut, rate, segment_lines, numbers, same, right}
use Rattle.rules.specs.Held.{Planner}
use Rattle.calls.specs.Called.{Left, opening}
use Rattle.history.specs.Carried.{Made, declares, withdraws, releases, advances, carried, answers_of, buffers_of, segments_in}

-- a call as a station makes it: an advance lends a buffer of so many zeros
unfoldable pub made_of : Call → Made
made_of (declare period cost) = declares period cost
made_of (withdraw slot) = withdraws slot
made_of (release slot) = releases slot
made_of (advance tick room) = advances tick (replicate room 0)

unfoldable pub mades : List Call → List Made
mades [] = []
mades (c ∷ cs) = made_of c ∷ mades cs

-- answers and the buffers as they are left, as the drill prints them
unfoldable pub handed_back : List Answer → List (List ℕ) → List Line
handed_back [] buffers = []
handed_back (a ∷ more) [] = []
handed_back (a ∷ more) (b ∷ bs) = cond (eqb a.number 0) (OK a.value) (NO a.number) ∷ (segment_lines (segments_in a.count b) ++ handed_back more bs)

unfoldable pub handed : List Left → List Line
handed ls = handed_back (answers_of ls) (buffers_of ls)

-- an example comes out right through the planner q, which is lent the words: open, then call by call
unfoldable pub ran_right : Planner → List ℕ → Example → Bool
ran_right q words (on cores calls expected) =
    let o = opening q words cores in
    same (numbers (handed (o ∷ carried o.planner o.words (mades calls)))) (numbers (OK cores ∷ expected))
ran_right q words (cut d D row first second) = right (cut d D row first second)
ran_right q words (rate period cost r) = right (rate period cost r)

unfoldable pub all_ran : Planner → List ℕ → List Example → Bool
all_ran q words [] = true
all_ran q words (e ∷ es) = ran_right q words e && all_ran q words es
