-- One line more, the lines of one lane more, and one deployment more.
use Rattle.std.proofs.Common.{◌≡◌, ◌<◌, ◌+◌, ℕ, List, [], ◌∷◌, ◌++◌, length, take, get_or, refl, sym, ◌∙◌, ap, arith, append_assoc, append-nil, map}
use Rattle.std.proofs.lemmas.List.{take_more, length-take, length-map, map-append}
use Rattle.script.specs.declared.answer.Reply.{Reply}
use Rattle.script.specs.declared.rows.StatusRow.{StatusRow}
use Rattle.script.specs.Lines.{reply_line, lane_lines, lines_from, status_row, status_rows}

pub lane_lines-push : (lane first : ℕ) (replies : List Reply) (reply : Reply)
    → lane_lines lane first (replies ++ reply ∷ []) ≡ lane_lines lane first replies ++ reply_line lane (first + length replies) reply.answer
unfolding lane_lines
lane_lines-push lane first [] reply = append-nil (reply_line lane first reply.answer) ∙ ap (λ k. reply_line lane k reply.answer) (omega arith)
lane_lines-push lane first (x ∷ replies) reply =
    ap (λ t. reply_line lane first x.answer ++ t)
    (lane_lines-push lane (first + 1) replies reply ∙ ap (λ k. lane_lines lane (first + 1) replies ++ reply_line lane k reply.answer) (omega arith))
    ∙ sym (append_assoc (reply_line lane first x.answer) _ _)

pub lines_from-push : (first : ℕ) (lanes : List (List Reply)) (lane : List Reply)
    → lines_from first (lanes ++ lane ∷ []) ≡ lines_from first lanes ++ lane_lines (first + length lanes) 0 lane
unfolding lines_from
lines_from-push first [] lane = append-nil (lane_lines first 0 lane) ∙ ap (λ k. lane_lines k 0 lane) (omega arith)
lines_from-push first (x ∷ lanes) lane =
    ap (λ t. lane_lines first 0 x ++ t)
    (lines_from-push (first + 1) lanes lane ∙ ap (λ k. lines_from (first + 1) lanes ++ lane_lines k 0 lane) (omega arith))
    ∙ sym (append_assoc (lane_lines first 0 x) _ _)

pub lane_lines-nil : (lane first : ℕ) → lane_lines lane first [] ≡ []
unfolding lane_lines
lane_lines-nil lane first = refl

pub lines_from-nil : (first : ℕ) → lines_from first [] ≡ []
unfolding lines_from
lines_from-nil first = refl

pub lane_step : (had text new : List ℕ) (lane i : ℕ) (replies : List Reply) (reply : Reply) → i < length replies → reply ≡ get_or replies i reply
    → text ≡ had ++ lane_lines lane 0 (take i replies) → new ≡ text ++ reply_line lane i reply.answer → new ≡ had ++ lane_lines lane 0 (take (i + 1) replies)
lane_step had text new lane i replies reply in_range is before step =
    let more : take (i + 1) replies ≡ take i replies ++ reply ∷ [] = take_more replies i reply in_range ∙ ap (λ r. take i replies ++ r ∷ []) (sym is) in
    let count : length (take i replies) ≡ i = length-take i replies ∙ omega arith in
    step ∙ ap (λ t. t ++ reply_line lane i reply.answer) before ∙ append_assoc had _ _
    ∙ ap (λ t. had ++ t) (sym (ap (lane_lines lane 0) more ∙ lane_lines-push lane 0 (take i replies) reply ∙ ap (λ k. lane_lines lane 0 (take i replies) ++ reply_line lane k reply.answer) (omega (arith, count))))

pub lines_step : {V : Type 0} (items : V → List Reply) (text new : List ℕ) (i : ℕ) (lanes : List V) (lane : V) → i < length lanes → lane ≡ get_or lanes i lane
    → text ≡ lines_from 0 (map items (take i lanes)) → new ≡ text ++ lane_lines i 0 (items lane) → new ≡ lines_from 0 (map items (take (i + 1) lanes))
lines_step items text new i lanes lane in_range is before step =
    let more : take (i + 1) lanes ≡ take i lanes ++ lane ∷ [] = take_more lanes i lane in_range ∙ ap (λ r. take i lanes ++ r ∷ []) (sym is) in
    let count : length (map items (take i lanes)) ≡ i = length-map (take i lanes) items ∙ length-take i lanes ∙ omega arith in
    step ∙ ap (λ t. t ++ lane_lines i 0 (items lane)) before
    ∙ sym (ap (λ l. lines_from 0 (map items l)) more ∙ ap (lines_from 0) (map-append items (take i lanes) (lane ∷ [])) ∙ lines_from-push 0 (map items (take i lanes)) (items lane) ∙ ap (λ k. lines_from 0 (map items (take i lanes)) ++ lane_lines k 0 (items lane)) (omega (arith, count)))

-- ---- deployments

status_rows-push : (first : ℕ) (rows : List StatusRow) (row : StatusRow) → status_rows first (rows ++ row ∷ []) ≡ status_rows first rows ++ status_row (first + length rows) row
unfolding status_rows
status_rows-push first [] row = append-nil (status_row first row) ∙ ap (λ k. status_row k row) (omega arith)
status_rows-push first (x ∷ rows) row =
    ap (λ t. status_row first x ++ t) (status_rows-push (first + 1) rows row ∙ ap (λ k. status_rows (first + 1) rows ++ status_row k row) (omega arith)) ∙ sym (append_assoc (status_row first x) _ _)

pub status_rows-nil : (first : ℕ) → status_rows first [] ≡ []
unfolding status_rows
status_rows-nil first = refl

pub status_step : (had count text new : List ℕ) (i : ℕ) (rows : List StatusRow) (row : StatusRow) → i < length rows → row ≡ get_or rows i row
    → text ≡ had ++ (count ++ status_rows 0 (take i rows)) → new ≡ text ++ status_row i row → new ≡ had ++ (count ++ status_rows 0 (take (i + 1) rows))
status_step had count text new i rows row in_range is before step =
    let more : take (i + 1) rows ≡ take i rows ++ row ∷ [] = take_more rows i row in_range ∙ ap (λ r. take i rows ++ r ∷ []) (sym is) in
    let taken : length (take i rows) ≡ i = length-take i rows ∙ omega arith in
    step ∙ ap (λ t. t ++ status_row i row) before ∙ append_assoc had _ _ ∙ ap (λ t. had ++ t) (append_assoc count _ _)
    ∙ ap (λ t. had ++ (count ++ t)) (sym (ap (status_rows 0) more ∙ status_rows-push 0 (take i rows) row ∙ ap (λ k. status_rows 0 (take i rows) ++ status_row k row) (omega (arith, taken))))
