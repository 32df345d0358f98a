-- The texts of the layout's paths, as they are put together: a front, and then one piece after the other.
use Rattle.std.proofs.Common.{◌≡◌, ℕ, List, [], ◌∷◌, ◌++◌, take, drop, codes, sym, ◌∙◌, ap, append-nil, append_assoc}
use Rattle.std.specs.Fmt.{decimal}
use Rattle.ost_types.specs.Path.{Name, joined, text_of}
use Rattle.ost_types.specs.Csum.{hex_of}
use Rattle.ost_types.specs.declared.object.Kind.{Kind}
use Rattle.repo_layout.specs.Paths.{deploy_path, ending, mark_path, object_path, objects_folder_path, stage_path}

pub objects_folder-text : (sum h a t : List ℕ) → h ≡ hex_of sum → t ≡ a ++ take 2 h → a ≡ codes "/ostree/repo/objects/" → t ≡ text_of (objects_folder_path sum)
unfolding joined objects_folder_path
objects_folder-text sum h a t digits last first =
    last ∙ ap (λ x. x ++ take 2 h) first ∙ ap (λ x. codes "/ostree/repo/objects/" ++ take 2 x) digits ∙ ap (λ x. codes "/ostree/repo/objects/" ++ x) (sym (append-nil (take 2 (hex_of sum))))

object-pieces : (front x y e : List ℕ) → ((((front ++ x) ++ 47 ∷ []) ++ y) ++ e) ≡ front ++ (x ++ 47 ∷ ((y ++ e) ++ []))
object-pieces front x y e =
    append_assoc ((front ++ x) ++ 47 ∷ []) y e
    ∙ append_assoc (front ++ x) (47 ∷ []) (y ++ e)
    ∙ append_assoc front x (47 ∷ (y ++ e))
    ∙ ap (λ z. front ++ (x ++ 47 ∷ z)) (sym (append-nil (y ++ e)))

pub object-text : (kind : Kind) (sum h x y e a b c d t : List ℕ) → h ≡ hex_of sum → x ≡ take 2 h → y ≡ drop 2 h → e ≡ ending kind
    → t ≡ d ++ e → d ≡ c ++ y → c ≡ b ++ 47 ∷ [] → b ≡ a ++ x → a ≡ codes "/ostree/repo/objects/" → t ≡ text_of (object_path kind sum)
unfolding joined object_path
object-text kind sum h x y e a b c d t digits two rest end fifth fourth third second first =
    fifth
    ∙ ap (λ z. z ++ e) (fourth ∙ ap (λ z. z ++ y) (third ∙ ap (λ z. z ++ 47 ∷ []) (second ∙ ap (λ z. z ++ x) first)))
    ∙ object-pieces (codes "/ostree/repo/objects/") x y e
    ∙ ap (λ z. codes "/ostree/repo/objects/" ++ (z ++ 47 ∷ ((y ++ e) ++ []))) (two ∙ ap (take 2) digits)
    ∙ ap (λ z. codes "/ostree/repo/objects/" ++ (take 2 (hex_of sum) ++ 47 ∷ ((z ++ e) ++ []))) (rest ∙ ap (drop 2) digits)
    ∙ ap (λ z. codes "/ostree/repo/objects/" ++ (take 2 (hex_of sum) ++ 47 ∷ ((drop 2 (hex_of sum) ++ z) ++ []))) end

pub mark-text : (commit h a b t : List ℕ) → h ≡ hex_of commit → t ≡ b ++ codes ".commitpartial" → b ≡ a ++ h → a ≡ codes "/ostree/repo/state/" → t ≡ text_of (mark_path commit)
unfolding joined mark_path
mark-text commit h a b t digits third second first =
    third
    ∙ ap (λ x. x ++ codes ".commitpartial") (second ∙ ap (λ x. x ++ h) first)
    ∙ append_assoc (codes "/ostree/repo/state/") h (codes ".commitpartial")
    ∙ ap (λ x. codes "/ostree/repo/state/" ++ (x ++ codes ".commitpartial")) digits
    ∙ ap (λ x. codes "/ostree/repo/state/" ++ x) (sym (append-nil (hex_of commit ++ codes ".commitpartial")))

pub stage-text : (actor : ℕ) (t : List ℕ) → t ≡ codes "/ostree/repo/tmp/actor-" ++ decimal actor → t ≡ text_of (stage_path actor)
unfolding joined stage_path
stage-text actor t is = is ∙ ap (λ x. codes "/ostree/repo/tmp/" ++ x) (sym (append-nil (codes "actor-" ++ decimal actor)))

deploy-pieces : (front o middle h d : List ℕ) → (((((front ++ o) ++ middle) ++ h) ++ 46 ∷ []) ++ d) ≡ front ++ (o ++ (middle ++ ((h ++ 46 ∷ d) ++ [])))
deploy-pieces front o middle h d =
    append_assoc (((front ++ o) ++ middle) ++ h) (46 ∷ []) d
    ∙ append_assoc ((front ++ o) ++ middle) h (46 ∷ d)
    ∙ append_assoc (front ++ o) middle (h ++ 46 ∷ d)
    ∙ append_assoc front o (middle ++ (h ++ 46 ∷ d))
    ∙ ap (λ x. front ++ (o ++ (middle ++ x))) (sym (append-nil (h ++ 46 ∷ d)))

pub deploy-text : (os : Name) (commit : List ℕ) (serial : ℕ) (o h n a b c d e t : List ℕ) → o ≡ os → h ≡ hex_of commit → n ≡ decimal serial
    → t ≡ e ++ n → e ≡ d ++ 46 ∷ [] → d ≡ c ++ h → c ≡ b ++ codes "/deploy/" → b ≡ a ++ o → a ≡ codes "/ostree/deploy/" → t ≡ text_of (deploy_path os commit serial)
unfolding joined deploy_path
deploy-text os commit serial o h n a b c d e t root digits number sixth fifth fourth third second first =
    sixth
    ∙ ap (λ x. x ++ n) (fifth ∙ ap (λ x. x ++ 46 ∷ []) (fourth ∙ ap (λ x. x ++ h) (third ∙ ap (λ x. x ++ codes "/deploy/") (second ∙ ap (λ x. x ++ o) first))))
    ∙ deploy-pieces (codes "/ostree/deploy/") o (codes "/deploy/") h n
    ∙ ap (λ x. codes "/ostree/deploy/" ++ (x ++ (codes "/deploy/" ++ ((h ++ 46 ∷ n) ++ [])))) root
    ∙ ap (λ x. codes "/ostree/deploy/" ++ (os ++ (codes "/deploy/" ++ ((x ++ 46 ∷ n) ++ [])))) digits
    ∙ ap (λ x. codes "/ostree/deploy/" ++ (os ++ (codes "/deploy/" ++ ((hex_of commit ++ 46 ∷ x) ++ [])))) number
