-- Of one disk an entry is read in one way, names one link, and leads to one deployment.
use Rattle.std.proofs.Common.{◌≡◌, ℕ, List, [], ◌∷◌, ◌++◌, length, ◌≤◌, ◌<◌, ◌^◌, Option, Some, None, Result, Ok, Err, refl, sym, ◌∙◌, ap, subst, arith}
use Rattle.std.proofs.lemmas.List.{append_cancel_left}
use Rattle.ost_types.specs.Path.{Name, Path}
use Rattle.fs_trait.specs.View.{Disk}
use Rattle.fs_trait.specs.Seen.{Symlink}
use Rattle.boot_model.specs.declared.item.DepId.{DepId}
use Rattle.boot_model.specs.Listing.{HasEntry}
use Rattle.bls_entry.specs.declared.entry.BlsEntry.{BlsEntry}
use Rattle.bls_entry.specs.declared.fault.BlsFault.{BlsFault}
use Rattle.bls_entry.specs.declared.key.Key.TheVariants.{Version}
use Rattle.bls_entry.specs.Entry.{IsVersionOf, value_of}
use Rattle.bls_entry.specs.Options.{HasOstree, ostree_key}
use Rattle.bls_entry.specs.Reading.{Reads}
use Rattle.bls_entry.proofs.OneReading.{one_reading}
use Rattle.boot_words.specs.Words.{LeadsTo, NamesLink}
use Rattle.boot_words.proofs.Words as words
use Rattle.boot_read.specs.declared.fault.EntryFault.{EntryFault}
use Rattle.boot_read.specs.declared.fault.EntryFault.TheVariants.{TooLong, Unread}
use Rattle.boot_read.specs.Entries.{IsNoEntry, IsRead, IsUnread}
use Rattle.boot_read.specs.Links.{EntryNames, IsItemLink, IsNamed, LeadsOn, item_link}

abbrev Answer : Type 0
Answer = Result BlsEntry BlsFault

abbrev ok_of : BlsEntry → Answer
ok_of a = Ok a

pub one_text : (d : Disk) (loader : ℕ) (file : Name) (a b : List ℕ) → HasEntry d loader file a → HasEntry d loader file b → a ≡ b
one_text d loader file a b p q = let e : Some a ≡ Some b = sym p.holds ∙ q.holds in cc

ok_once : (x y : Answer) (a b : BlsEntry) → x ≡ Ok a → y ≡ Ok b → x ≡ y → a ≡ b
ok_once x y a b p q e = let n : ok_of a ≡ ok_of b = sym p ∙ e ∙ q in cc

pub read_once : (d : Disk) (loader : ℕ) (file : Name) (a b : BlsEntry) → IsRead d loader file a → IsRead d loader file b → a ≡ b
read_once d loader file a b p q =
    ok_once (Ok a) (Ok b) a b refl refl (one_reading p.bytes (Ok a) (Ok b) p.reads (subst (λ t. Reads t (Ok b)) (one_text d loader file q.bytes p.bytes q.there p.there) q.reads) (λ n. cc) (λ n. cc))

version_is_small : (n : ℕ) (o : Option (List ℕ)) → IsVersionOf n o → n < 2 ^ 32
version_is_small n None is = omega (arith, is)
version_is_small n (Some value) is = is.0

pub version_small : (d : Disk) (loader : ℕ) (file : Name) (entry : BlsEntry) → IsRead d loader file entry → entry.version < 2 ^ 32
version_small d loader file entry read = let reads = read.reads in version_is_small entry.version (value_of Version reads.0) reads.2.version

unread_text : (text : List ℕ) (a : BlsEntry) (fault : EntryFault) → length text ≤ 1048576 → Reads text (Ok a) → IsNoEntry text fault → ⊥
unread_text text a TooLong short reads wrong = omega (arith, short, wrong)
unread_text text a (Unread fault) short reads wrong =
    let n = one_reading text (Ok a) (Err fault) reads wrong.1 (λ n. cc) (λ n. wrong.2 cc) in cc

pub not_unread : (d : Disk) (loader : ℕ) (file : Name) (a : BlsEntry) (fault : EntryFault) → IsRead d loader file a → IsUnread d loader file fault → ⊥
not_unread d loader file a fault p q =
    unread_text p.bytes a fault p.short p.reads (subst (λ t. IsNoEntry t fault) (one_text d loader file q.bytes p.bytes q.there p.there) q.wrong)

fault_once : (text : List ℕ) (a b : EntryFault) → IsNoEntry text a → IsNoEntry text b → a ≡ b
fault_once text TooLong TooLong p q = refl
fault_once text TooLong (Unread b) p q = absurd (omega (arith, p, q.0))
fault_once text (Unread a) TooLong p q = absurd (omega (arith, q, p.0))
fault_once text (Unread a) (Unread b) p q =
    let e = one_reading text (Err a) (Err b) p.1 q.1 (λ n. p.2 cc) (λ n. q.2 cc) in
    let same : a ≡ b = cc in ap Unread same

pub unread_once : (d : Disk) (loader : ℕ) (file : Name) (a b : EntryFault) → IsUnread d loader file a → IsUnread d loader file b → a ≡ b
unread_once d loader file a b p q = fault_once p.bytes a b p.wrong (subst (λ t. IsNoEntry t b) (one_text d loader file q.bytes p.bytes q.there p.there) q.wrong)

-- ---- links

pub value_once : (options v w : List ℕ) → HasOstree options v → HasOstree options w → v ≡ w
value_once options v w p q =
    let e : (ostree_key ++ v) ∷ [] ≡ (ostree_key ++ w) ∷ [] = sym p ∙ q in
    let h : ostree_key ++ v ≡ ostree_key ++ w = cc in
    append_cancel_left ostree_key v w h

names_once : (loader : ℕ) (entry : BlsEntry) (os pt : Name) (a b : List ℕ) (m n : ℕ) → EntryNames loader entry os a m → EntryNames loader entry pt b n → (os ≡ pt) × (a ≡ b) × (m ≡ n)
names_once loader entry os pt a b m n p q =
    let w = words.named_once p.value loader loader os pt a b m n p.names (subst (λ t. NamesLink t loader pt b n) (value_once entry.options q.value p.value q.word p.word) q.names) in
    (w.1, w.2, w.3)

pub named_once : (d : Disk) (loader : ℕ) (file os pt : Name) (a b : List ℕ) (m n : ℕ) → IsNamed d loader file os a m → IsNamed d loader file pt b n → (os ≡ pt) × (a ≡ b) × (m ≡ n)
named_once d loader file os pt a b m n p q =
    names_once loader p.entry os pt a b m n p.names (subst (λ e. EntryNames loader e pt b n) (read_once d loader file q.entry p.entry q.read p.read) q.names)

pub same_path : (loader sub : ℕ) (os pt : Name) (a b : List ℕ) (m n : ℕ) → (os ≡ pt) × (a ≡ b) × (m ≡ n) → item_link loader sub os a m ≡ item_link loader sub pt b n
same_path loader sub os pt a b m n s = ap (λ o. item_link loader sub o a m) s.0 ∙ ap (λ x. item_link loader sub pt x m) s.1 ∙ ap (λ x. item_link loader sub pt b x) s.2

pub item_once : (d : Disk) (path : Path) (os pt : Name) (i j : DepId) → IsItemLink d path os i → IsItemLink d path pt j → i ≡ j
item_once d path os pt i j p q =
    let e : Symlink p.link.0 p.target ≡ Symlink q.link.0 q.target = sym p.link.1 ∙ q.link.1 in
    let t : p.target ≡ q.target = cc in
    words.led_once p.target i j p.leads (subst (λ x. LeadsTo x j) (sym t) q.leads)

pub leads_once : (d : Disk) (loader sub : ℕ) (file : Name) (a b : List ℕ) (m n : ℕ) (i j : DepId) → LeadsOn d loader sub file a m i → LeadsOn d loader sub file b n j → (a ≡ b) × (m ≡ n) × (i ≡ j)
leads_once d loader sub file a b m n i j p q =
    let s = named_once d loader file i.os j.os a b m n p.named q.named in
    (s.1, s.2, item_once d (item_link loader sub i.os a m) i.os j.os i j p.link (subst (λ z. IsItemLink d z j.os j) (sym (same_path loader sub i.os j.os a b m n s)) q.link))
