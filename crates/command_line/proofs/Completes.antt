-- What the grammar says, the walk of `clap` over the words finds.
use Rattle.std.proofs.Common.{◌≡◌, ◌⊎◌, inl, inr, true, false, List, [], ◌∷◌, ◌++◌, Option, Some, None, codes, refl, sym, ◌∙◌, ap, subst, append_assoc}
use Rattle.std.proofs.lemmas.List.{append-nil}
use Rattle.clap.specs.Faults.{turn_fault, use_fault}
use Rattle.clap.specs.Kinds.{Kinds}
use Rattle.clap.specs.Lexer.{long_of}
use Rattle.clap.specs.Walk.{Row, Waiting, Walk, idle, option, positional, used, walked}
use Rattle.command_line.specs.Command.{IsMeant}
use Rattle.command_line.specs.Words.{AreCut, AreParts, IsOption, IsPlain, Part, Word, field, fields_in, helpers, helpers_in, schedule, schedules_in}
use Rattle.command_line.proofs.Looks.{Looks, LooksPlain, as_dash, as_long, as_plain, as_short, dashes, long_word, looks, not_plain}
use Rattle.command_line.proofs.Rows.{Shows, field_used, first_passes, helpers_used, option_built, rules_built, schedule_used}
use Rattle.command_line.proofs.Turns.{Pending, Rests, at, behind_next, behind_turn, dash_next, dash_turn, given_next, given_turn, helpers_known, named_next, named_turn, pending_fault, plain_next, plain_turn, rows_then, schedule_known, value_fault, value_next, value_rows, value_turn, whole}
use Rattle.command_line.proofs.Walks.{final, or_both, total}

-- no fault, and rows with these values
abbrev pub Done : Walk → List Word → List Word → List Word → List Word → Type 0
Done w words hs ss fs = (total w words ≡ []) × Shows (final w words) hs ss fs

-- the words behind the parts
abbrev pub IsTail : List Word → List Word → Type 0
IsTail tail behind = ((tail ≡ []) × (behind ≡ [])) ⊎ (tail ≡ dashes ∷ behind)

done_next : (w next : Walk) (word : Word) (words : List Word) (fault : Kinds) (hs ss fs : List Word) → walked rules_built [] w word ≡ next → turn_fault whole [] w word ≡ fault → fault ≡ []
    → Done next words hs ss fs → Done w (word ∷ words) hs ss fs
done_next w next word words fault hs ss fs after turn none d = (
  or_both _ _ (turn ∙ none) (ap (λ v. total v words) after ∙ d.0),
  subst (λ v. Shows (final v words) hs ss fs) (sym after) d.1,
)

done_fields : (w : Walk) (words hs ss fs more : List Word) → fs ≡ more → Done w words hs ss fs → Done w words hs ss more
done_fields w words hs ss fs more same d = (d.0, subst (λ t. Shows (final w words) hs ss t) same d.1)

assoc : (a b c : List Word) → (a ++ b) ++ c ≡ a ++ (b ++ c)
assoc a b c = simp append_assoc

behind_done : (behind : List Word) (rows : List Row) (p : Pending) (waiting : Waiting) (hs ss fs : List Word) → pending_fault rows p ≡ [] → Shows (rows_then rows p) hs ss fs
    → Done (at rows p waiting true) behind hs ss (fs ++ behind)
behind_done [] rows p waiting hs ss fs e shows = (e, subst (λ t. Shows (rows_then rows p) hs ss t) (sym (append-nil fs)) shows)
behind_done (word ∷ words) rows p waiting hs ss fs e shows =
    done_next (at rows p waiting true) (at (rows_then rows p) (Some (codes "fields", word ∷ [])) positional true) word words _ hs ss (fs ++ word ∷ words) (behind_next rows p waiting word) (behind_turn rows p waiting word) e
    (done_fields _ words hs ss ((fs ++ word ∷ []) ++ words) (fs ++ word ∷ words) (assoc fs (word ∷ []) words)
    (behind_done words (rows_then rows p) (Some (codes "fields", word ∷ [])) positional hs ss (fs ++ word ∷ []) refl (field_used (rows_then rows p) hs ss fs word shows)))

tail_done : (tail behind : List Word) → IsTail tail behind → (rows : List Row) (p : Pending) (waiting : Waiting) (hs ss fs : List Word) → pending_fault rows p ≡ [] → Shows (rows_then rows p) hs ss fs
    → Done (at rows p waiting false) tail hs ss (fs ++ behind)
tail_done tail behind (inl none) rows p waiting hs ss fs e shows =
    subst (λ t. Done (at rows p waiting false) t hs ss (fs ++ behind)) (sym none.0)
    (e, subst (λ t. Shows (rows_then rows p) hs ss t) (sym (ap (λ b. fs ++ b) none.1 ∙ append-nil fs)) shows)
tail_done tail behind (inr is) rows p waiting hs ss fs e shows =
    subst (λ t. Done (at rows p waiting false) t hs ss (fs ++ behind)) (sym is)
    (done_next (at rows p waiting false) (at rows p waiting true) dashes behind _ hs ss (fs ++ behind) (dash_next rows p waiting) (dash_turn rows p waiting) refl
    (behind_done behind rows p waiting hs ss fs e shows))

-- a plain word looks so
pub plain_looks : (word : Word) → IsPlain word → LooksPlain word
plain_looks word is = go (looks word)
  where
    long_no : (name : Word) (value : Option Word) → word ≡ long_word name value → ⊥
    long_no name None same = not_plain 45 name (subst IsPlain same is)
    long_no name (Some v) same = not_plain 45 (name ++ 61 ∷ v) (subst IsPlain same is)

    go : Looks word → LooksPlain word
    go (as_plain l) = l
    go (as_dash same) = absurd (not_plain 45 [] (subst IsPlain same is))
    go (as_long l) = absurd (long_no l.name l.value l.is)
    go (as_short l) = absurd (not_plain l.first l.rest (subst IsPlain l.is is))

-- `--helpers=` and its value
helpers_long : (v : Word) → long_of (codes "--helpers" ++ 61 ∷ v) ≡ Some (codes "helpers", Some v)
helpers_long v = refl

schedule_long : (v : Word) → long_of (codes "--schedule" ++ 61 ∷ v) ≡ Some (codes "schedule", Some v)
schedule_long v = refl

-- `--helpers` in front of words that are done
helpers_done : (front words : List Word) (v : Word) → IsOption (codes "--helpers") v front → IsPlain v → (rows : List Row) (p : Pending) (waiting : Waiting) (hs ss fs xs ys zs : List Word) → hs ≡ []
    → pending_fault rows p ≡ [] → Shows (rows_then rows p) hs ss fs
    → ((rs : List Row) (q : Pending) → pending_fault rs q ≡ [] → Shows (rows_then rs q) (v ∷ []) ss fs → Done (at rs q idle false) words xs ys zs)
    → Done (at rows p waiting false) (front ++ words) xs ys zs
helpers_done front words v (inl is) plain rows p waiting hs ss fs xs ys zs none e shows more =
    let x = rows_then rows p in
    let first : use_fault false (option_built (codes "helpers")) (v ∷ []) x ≡ [] = first_passes (codes "helpers") x hs v shows.helpers none in
    let new = helpers_used x ss fs v (subst (λ t. Shows x t ss fs) none shows) in
    subst (λ t. Done (at rows p waiting false) (t ++ words) xs ys zs) (sym is)
    (done_next (at rows p waiting false) (at (used (option_built (codes "helpers")) (v ∷ []) x) None idle false) (codes "--helpers" ++ 61 ∷ v) words _ xs ys zs
    (given_next rows p waiting (codes "--helpers" ++ 61 ∷ v) (codes "helpers") v helpers_known refl (helpers_long v))
    (given_turn rows p waiting (codes "--helpers" ++ 61 ∷ v) (codes "helpers") v helpers_known refl (helpers_long v))
    (or_both _ _ (or_both _ _ e first) refl) (more (used (option_built (codes "helpers")) (v ∷ []) x) None refl new))
helpers_done front words v (inr is) plain rows p waiting hs ss fs xs ys zs none e shows more =
    let x = rows_then rows p in
    let first : use_fault false (option_built (codes "helpers")) (v ∷ []) x ≡ [] = first_passes (codes "helpers") x hs v shows.helpers none in
    let new = helpers_used x ss fs v (subst (λ t. Shows x t ss fs) none shows) in
    let l = plain_looks v plain in
    subst (λ t. Done (at rows p waiting false) (t ++ words) xs ys zs) (sym is)
    (done_next (at rows p waiting false) (at x (Some (codes "helpers", [])) (option (codes "helpers")) false) (codes "--helpers") (v ∷ words) _ xs ys zs
    (named_next rows p waiting (codes "--helpers") (codes "helpers") helpers_known refl refl)
    (named_turn rows p waiting (codes "--helpers") (codes "helpers") helpers_known refl refl) (or_both _ _ e refl)
    (done_next (at x (Some (codes "helpers", [])) (option (codes "helpers")) false) (at x (Some (codes "helpers", v ∷ [])) idle false) v words _ xs ys zs
    (value_next x (codes "helpers") v helpers_known l) (value_turn x (codes "helpers") v helpers_known l) refl
    (more x (Some (codes "helpers", v ∷ [])) (value_fault x (codes "helpers") v helpers_known ∙ first)
    (subst (λ t. Shows t (v ∷ []) ss fs) (sym (value_rows x (codes "helpers") v helpers_known)) new))))

-- `--schedule` in front of words that are done
schedule_done : (front words : List Word) (v : Word) → IsOption (codes "--schedule") v front → IsPlain v → (rows : List Row) (p : Pending) (waiting : Waiting) (hs ss fs xs ys zs : List Word) → ss ≡ []
    → pending_fault rows p ≡ [] → Shows (rows_then rows p) hs ss fs
    → ((rs : List Row) (q : Pending) → pending_fault rs q ≡ [] → Shows (rows_then rs q) hs (v ∷ []) fs → Done (at rs q idle false) words xs ys zs)
    → Done (at rows p waiting false) (front ++ words) xs ys zs
schedule_done front words v (inl is) plain rows p waiting hs ss fs xs ys zs none e shows more =
    let x = rows_then rows p in
    let first : use_fault false (option_built (codes "schedule")) (v ∷ []) x ≡ [] = first_passes (codes "schedule") x ss v shows.schedules none in
    let new = schedule_used x hs fs v (subst (λ t. Shows x hs t fs) none shows) in
    subst (λ t. Done (at rows p waiting false) (t ++ words) xs ys zs) (sym is)
    (done_next (at rows p waiting false) (at (used (option_built (codes "schedule")) (v ∷ []) x) None idle false) (codes "--schedule" ++ 61 ∷ v) words _ xs ys zs
    (given_next rows p waiting (codes "--schedule" ++ 61 ∷ v) (codes "schedule") v schedule_known refl (schedule_long v))
    (given_turn rows p waiting (codes "--schedule" ++ 61 ∷ v) (codes "schedule") v schedule_known refl (schedule_long v))
    (or_both _ _ (or_both _ _ e first) refl) (more (used (option_built (codes "schedule")) (v ∷ []) x) None refl new))
schedule_done front words v (inr is) plain rows p waiting hs ss fs xs ys zs none e shows more =
    let x = rows_then rows p in
    let first : use_fault false (option_built (codes "schedule")) (v ∷ []) x ≡ [] = first_passes (codes "schedule") x ss v shows.schedules none in
    let new = schedule_used x hs fs v (subst (λ t. Shows x hs t fs) none shows) in
    let l = plain_looks v plain in
    subst (λ t. Done (at rows p waiting false) (t ++ words) xs ys zs) (sym is)
    (done_next (at rows p waiting false) (at x (Some (codes "schedule", [])) (option (codes "schedule")) false) (codes "--schedule") (v ∷ words) _ xs ys zs
    (named_next rows p waiting (codes "--schedule") (codes "schedule") schedule_known refl refl)
    (named_turn rows p waiting (codes "--schedule") (codes "schedule") schedule_known refl refl) (or_both _ _ e refl)
    (done_next (at x (Some (codes "schedule", [])) (option (codes "schedule")) false) (at x (Some (codes "schedule", v ∷ [])) idle false) v words _ xs ys zs
    (value_next x (codes "schedule") v schedule_known l) (value_turn x (codes "schedule") v schedule_known l) refl
    (more x (Some (codes "schedule", v ∷ [])) (value_fault x (codes "schedule") v schedule_known ∙ first)
    (subst (λ t. Shows t hs (v ∷ []) fs) (sym (value_rows x (codes "schedule") v schedule_known)) new))))

-- the parts of a cut that is meant, and what stands behind them
complete_parts : (parts : List Part) (front tail behind : List Word) → AreParts parts front → IsTail tail behind → (rows : List Row) (p : Pending) (waiting : Waiting) (hs ss fs : List Word) → Rests waiting
    → IsMeant hs ss parts → pending_fault rows p ≡ [] → Shows (rows_then rows p) hs ss fs
    → Done (at rows p waiting false) (front ++ tail) (hs ++ helpers_in parts) (ss ++ schedules_in parts) (fs ++ (fields_in parts ++ behind))
complete_parts [] front tail behind are end rows p waiting hs ss fs rests meant e shows =
    subst (λ t. Done (at rows p waiting false) (t ++ tail) (hs ++ []) (ss ++ []) (fs ++ behind)) (sym are)
    (subst (λ t. Done (at rows p waiting false) tail t (ss ++ []) (fs ++ behind)) (sym (append-nil hs))
    (subst (λ t. Done (at rows p waiting false) tail hs t (fs ++ behind)) (sym (append-nil ss))
    (tail_done tail behind end rows p waiting hs ss fs e shows)))
complete_parts (field word ∷ parts) front tail behind (before, rest, is, are, same) end rows p waiting hs ss fs rests meant e shows =
    let l = plain_looks word is.0 in
    let words : front ++ tail ≡ word ∷ (rest ++ tail) = ap (λ t. t ++ tail) (same ∙ ap (λ t. t ++ rest) is.1) in
    subst (λ t. Done (at rows p waiting false) t (hs ++ helpers_in parts) (ss ++ schedules_in parts) (fs ++ word ∷ (fields_in parts ++ behind))) (sym words)
    (done_next (at rows p waiting false) (at (rows_then rows p) (Some (codes "fields", word ∷ [])) positional false) word (rest ++ tail) _ _ _ _
    (plain_next rows p waiting word rests l) (plain_turn rows p waiting word rests l) e
    (done_fields (at (rows_then rows p) (Some (codes "fields", word ∷ [])) positional false) (rest ++ tail) _ _ _ _ (assoc fs (word ∷ []) (fields_in parts ++ behind))
    (complete_parts parts rest tail behind are end (rows_then rows p) (Some (codes "fields", word ∷ [])) positional hs ss (fs ++ word ∷ []) tt meant refl (field_used (rows_then rows p) hs ss fs word shows))))
complete_parts (helpers v ∷ parts) front tail behind (before, rest, is, are, same) end rows p waiting hs ss fs rests meant e shows =
    let words : front ++ tail ≡ before ++ (rest ++ tail) = ap (λ t. t ++ tail) same ∙ assoc before rest tail in
    subst (λ t. Done (at rows p waiting false) t (hs ++ v ∷ helpers_in parts) (ss ++ schedules_in parts) (fs ++ (fields_in parts ++ behind))) (sym words)
    (subst (λ t. Done (at rows p waiting false) (before ++ (rest ++ tail)) (t ++ v ∷ helpers_in parts) (ss ++ schedules_in parts) (fs ++ (fields_in parts ++ behind))) (sym meant.0)
    (helpers_done before (rest ++ tail) v is meant.1 rows p waiting hs ss fs _ _ _ meant.0 e shows
    (λ rs q passes new. complete_parts parts rest tail behind are end rs q idle (v ∷ []) ss fs tt meant.2 passes new)))
complete_parts (schedule v ∷ parts) front tail behind (before, rest, is, are, same) end rows p waiting hs ss fs rests meant e shows =
    let words : front ++ tail ≡ before ++ (rest ++ tail) = ap (λ t. t ++ tail) same ∙ assoc before rest tail in
    subst (λ t. Done (at rows p waiting false) t (hs ++ helpers_in parts) (ss ++ v ∷ schedules_in parts) (fs ++ (fields_in parts ++ behind))) (sym words)
    (subst (λ t. Done (at rows p waiting false) (before ++ (rest ++ tail)) (hs ++ helpers_in parts) (t ++ v ∷ schedules_in parts) (fs ++ (fields_in parts ++ behind))) (sym meant.0)
    (schedule_done before (rest ++ tail) v is meant.1 rows p waiting hs ss fs _ _ _ meant.0 e shows
    (λ rs q passes new. complete_parts parts rest tail behind are end rs q idle hs (v ∷ []) fs tt meant.2 passes new)))

shows_nothing : Shows [] [] [] []
shows_nothing = record { helpers = refl; schedules = refl; fields = refl }

-- from the start
pub complete : (words : List Word) (parts : List Part) (behind : List Word) → AreCut words parts behind → IsMeant [] [] parts
    → Done (at [] None idle false) words (helpers_in parts) (schedules_in parts) (fields_in parts ++ behind)
complete words parts behind (inl all) meant =
    subst (λ t. Done (at [] None idle false) t (helpers_in parts) (schedules_in parts) (fields_in parts ++ behind)) (append-nil words)
    (complete_parts parts words [] behind all.0 (inl (refl, all.1)) [] None idle [] [] [] tt meant refl shows_nothing)
complete words parts behind (inr (front, are, same)) meant =
    subst (λ t. Done (at [] None idle false) t (helpers_in parts) (schedules_in parts) (fields_in parts ++ behind)) (sym same)
    (complete_parts parts front (dashes ∷ behind) behind are (inr refl) [] None idle [] [] [] tt meant refl shows_nothing)
