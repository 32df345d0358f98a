-- Replies that are put into the room that was made for them.
use Rattle.std.proofs.Common.{◌≡◌, ◌≤◌, ◌<◌, ◌+◌, ℕ, refl, sym, ◌∙◌, ap, subst, arith, List, [], ◌∷◌, ◌++◌, length, map, get_or, set, drop, take}
use Rattle.std.proofs.lemmas.List.{drop_more, map_push, take_more}
use Rattle.std.specs.Prelude.{vec_capacity}
use Rattle.std.specs.Global.{Vec}
use Rattle.script.specs.declared.answer.Reply.{Reply}
use Rattle.commands.specs.Answers.{reply_of}
use Rattle.commands.specs.Family.{Lane}
use Rattle.commands.specs.Lanes.{HasRoom, counts_of, replies_of, words_in}

-- one row more, with room for so many
pub room_push : (counts : List ℕ) (rows : List (Vec Reply)) (count : ℕ) (row : Vec Reply) → HasRoom counts rows → row.items ≡ [] → count ≤ vec_capacity row → HasRoom (counts ++ count ∷ []) (rows ++ row ∷ [])
room_push [] [] count row has empty room = (empty, room, tt)
room_push [] (r ∷ rows) count row has empty room = absurd has
room_push (n ∷ counts) [] count row has empty room = absurd has
room_push (n ∷ counts) (r ∷ rows) count row has empty room = (has.0, has.1, room_push counts rows count row has.2 empty room)

counts_next : (lanes : List Lane) (i : ℕ) (lane : Lane) → i < length lanes → lane ≡ get_or lanes i lane → counts_of (words_in (take (i + 1) lanes)) ≡ counts_of (words_in (take i lanes)) ++ length lane.words.items ∷ []
counts_next lanes i lane less is =
    ap (λ (xs : List Lane). counts_of (words_in xs)) (take_more lanes i lane less ∙ ap (λ x. take i lanes ++ x ∷ []) (sym is))
    ∙ ap counts_of (map_push (λ (x : Lane). x.words.items) (take i lanes) lane)
    ∙ map_push (λ xs. length xs) (words_in (take i lanes)) lane.words.items

pub room_next : (lanes : List Lane) (i : ℕ) (lane : Lane) (rows : List (Vec Reply)) (row : Vec Reply) → i < length lanes → lane ≡ get_or lanes i lane → HasRoom (counts_of (words_in (take i lanes))) rows → row.items ≡ [] → length lane.words.items ≤ vec_capacity row
    → HasRoom (counts_of (words_in (take (i + 1) lanes))) (rows ++ row ∷ [])
room_next lanes i lane rows row less is has empty room =
    subst (λ counts. HasRoom counts (rows ++ row ∷ [])) (sym (counts_next lanes i lane less is)) (room_push (counts_of (words_in (take i lanes))) rows (length lane.words.items) row has empty room)

-- the replies of the first lanes stand, and there is room for those of the others
abbrev pub Filled : List Lane → List Lane → List (Vec Reply) → Type 0
Filled [] rest rows = HasRoom (map (λ lane. length lane.replies.items) rest) rows
Filled (lane ∷ lanes) rest [] = ⊥
Filled (lane ∷ lanes) rest (row ∷ rows) = (row.items ≡ map reply_of lane.replies.items) × Filled lanes rest rows

pub filled_within : (done : List Lane) (lane : Lane) (rest : List Lane) (rows : List (Vec Reply)) → Filled done (lane ∷ rest) rows → length done < length rows
filled_within [] lane rest [] is = absurd is
filled_within [] lane rest (row ∷ rows) is = omega arith
filled_within (x ∷ done) lane rest [] is = absurd is
filled_within (x ∷ done) lane rest (row ∷ rows) is = omega (arith, filled_within done lane rest rows is.1)

pub filled_next : (done : List Lane) (lane : Lane) (rest : List Lane) (rows : List (Vec Reply)) (d : Vec Reply) → Filled done (lane ∷ rest) rows → ((get_or rows (length done) d).items ≡ []) × (length lane.replies.items ≤ vec_capacity (get_or rows (length done) d))
filled_next [] lane rest [] d is = absurd is
filled_next [] lane rest (row ∷ rows) d is = (is.0, is.1)
filled_next (x ∷ done) lane rest [] d is = absurd is
filled_next (x ∷ done) lane rest (row ∷ rows) d is = filled_next done lane rest rows d is.1

pub filled_more : (done : List Lane) (lane : Lane) (rest : List Lane) (rows : List (Vec Reply)) (row : Vec Reply) → Filled done (lane ∷ rest) rows → row.items ≡ map reply_of lane.replies.items → Filled (done ++ lane ∷ []) rest (set rows (length done) row)
filled_more [] lane rest [] row is given = absurd is
filled_more [] lane rest (r ∷ rows) row is given = (given, is.2)
filled_more (x ∷ done) lane rest [] row is given = absurd is
filled_more (x ∷ done) lane rest (r ∷ rows) row is given = (is.0, filled_more done lane rest rows row is.1 given)

pub filled_all : (lanes : List Lane) (rows : List (Vec Reply)) → Filled lanes [] rows → map (λ row. row.items) rows ≡ replies_of lanes
filled_all [] [] is = refl
filled_all [] (row ∷ rows) is = absurd is
filled_all (lane ∷ lanes) [] is = absurd is
filled_all (lane ∷ lanes) (row ∷ rows) is =
    ap (λ x. x ∷ map (λ (r : Vec Reply). r.items) rows) is.0 ∙ ap (λ xs. map reply_of lane.replies.items ∷ xs) (filled_all lanes rows is.1)

-- how far it is, where the lanes come one after the other
pub rest_at : (lanes : List Lane) (i : ℕ) (lane : Lane) → (i < length lanes) × (lane ≡ get_or lanes i lane) → drop i lanes ≡ lane ∷ drop (i + 1) lanes
rest_at lanes i lane is = drop_more lanes i lane is.0 ∙ ap (λ x. x ∷ drop (i + 1) lanes) (sym is.1)
