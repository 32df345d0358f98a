-- What a line of a lane is not.
use Rattle.std.proofs.Common.{◌≡◌, ℕ, List, ◌∷◌, codes, sym, ◌∙◌}
use Rattle.script.specs.Words.{keyword_of, HasFields, IsCommand, IsWritten}
use Rattle.script.specs.declared.command.Command.{Command}
use Rattle.script.specs.declared.command.Command.TheVariants as command
use Rattle.script.specs.declared.command.CommitLine.{CommitLine}
use Rattle.script.specs.declared.command.Written.{Written}
use Rattle.script.specs.declared.command.Written.TheVariants as written
use Rattle.script.specs.declared.words.Keyword.TheVariants.{Commit}
use Rattle.script.proofs.Fields.{end_word, spelled_one}

heads : (a b : List ℕ) (f g l : List (List ℕ)) → l ≡ a ∷ f → l ≡ b ∷ g → a ≡ b
heads a b f g l p q = let e : a ∷ f ≡ b ∷ g = sym p ∙ q in cc

-- the word that closes a lane is no command
pub end_no_written : (words more : List (List ℕ)) (w : Written) → words ≡ codes "end" ∷ more → IsWritten words w → ⊥
end_no_written words more (written.Command c) e is = end_word (keyword_of c) (heads _ _ _ _ _ e is.line)
end_no_written words more (written.Commit l) e is = end_word Commit (heads _ _ _ _ _ e is.1)

no_commit : (c : Command) (fields : List (List ℕ)) → keyword_of c ≡ Commit → HasFields c fields → ⊥
no_commit command.Refs fields kind has = cc
no_commit command.Status fields kind has = cc
no_commit (command.RevParse rev) fields kind has = cc
no_commit (command.Log rev) fields kind has = cc
no_commit (command.Ls rev path) fields kind has = cc
no_commit (command.Cat rev path) fields kind has = cc
no_commit (command.Checkout rev name) fields kind has = cc
no_commit (command.Reset branch sum) fields kind has = cc
no_commit (command.DropRef branch) fields kind has = cc
no_commit (command.Prune depth) fields kind has = cc
no_commit command.Cleanup fields kind has = cc
no_commit (command.Commit branch tree subject body time) fields kind has = has

-- and a commit is no other command
pub commit_alone : (words : List (List ℕ)) (c : Command) (l : CommitLine) → IsWritten words (written.Command c) → IsWritten words (written.Commit l) → ⊥
commit_alone words c l s t = no_commit c s.fields (spelled_one (keyword_of c) Commit (heads _ _ _ _ _ s.line t.1)) s.has

rests : (a b : List ℕ) (f g l : List (List ℕ)) → l ≡ a ∷ f → l ≡ b ∷ g → f ≡ g
rests a b f g l p q = let e : a ∷ f ≡ b ∷ g = sym p ∙ q in cc

-- two commands of the same words have the same keyword, and the same fields
pub same_keyword : (words : List (List ℕ)) (c d : Command) → IsCommand words c → IsCommand words d → keyword_of c ≡ keyword_of d
same_keyword words c d s t = spelled_one (keyword_of c) (keyword_of d) (heads _ _ _ _ _ s.line t.line)

pub same_fields : (words : List (List ℕ)) (c d : Command) (s : IsCommand words c) (t : IsCommand words d) → s.fields ≡ t.fields
same_fields words c d s t = rests _ _ _ _ _ s.line t.line
