-- What the first round of an update finds: the diverge nodes in columns, the sentinel adjusted, the bytes of an accepted image. Assumes nothing.
use mathlib.Core.Path.{◌≡◌, refl, sym, ap, ap₂, ◌∙◌}
use mathlib.Core.List.{List, [], ◌∷◌, ◌++◌}
use Prim.Native.Nat.{ℕ, zero, suc, ◌+◌, ◌-◌, ◌≤◌, ◌<◌}
use native.Mathlib.Omega.{arith}
use native.Mathlib.Numerals.{add-one}
use lib.ListN.{length, get_or, set}
use lib.Seq.{get_or-set_same, get_or-set_other}
use Rattle.link_rules.specs.declared.link_idx.TrainIdx.{TrainIdx}
use Rattle.link_rules.proofs.OctetLaws.{Bytes}
use Rattle.disp_structs.specs.Listed.{listed}
use Rattle.disp_structs.specs.declared.DivergeNode.{DivergeNode}
use Rattle.disp_structs.proofs.ListedLaws.{listed_same}
use Rattle.free_path.specs.Columns.{div_at}
use Rattle.image.specs.Image.{est_count, path_count_of, diverge_count_of, diverge_room, is_wide, node_place, diverge_at, path_header}
use Rattle.image.specs.Codec.{decoded}
use Rattle.image.proofs.WidthLaws.{words_twice}
use Rattle.link_rules.specs.Refusals.{no_refusal}
use Rattle.image_fault.specs.ImageFault.{fault_with}
use Rattle.image_fault.specs.declared.Widths.TheVariants.{Either}
use Rattle.image_fault.proofs.AcceptLaws as Clean
use Rattle.update_definition.specs.ImageTrain.{train_of}
use Rattle.update_definition.specs.State.{with_div_nodes}
use Rattle.update_definition.specs.Update.{adjust_sentinel}
use Rattle.update_definition.specs.Fits.{Fits}
use Rattle.update_laws.specs.FitsGood.{TrainFits}
use Rattle.update_laws.proofs.Updates.{adjusted_fits}

-- ---- diverge nodes

-- an entry written past those that are read
div_other : (dt dn : List ℕ) (i t n : ℕ) → listed i (div_at (set dt i t) (set dn i n)) ≡ listed i (div_at dt dn)
div_other dt dn i t n =
    listed_same i (div_at dt dn) (div_at (set dt i t) (set dn i n))
    (λ j h.
    let q : (j ≡ i → ⊥) = λ e. omega arith in
    rw (get_or-set_other dt i j t 0 q, get_or-set_other dn i j n 0 q))

-- one diverge node more stands in the columns
pub diverge-turn : (f : ℕ → DivergeNode) (dt dn : List ℕ) (i : ℕ) (d : DivergeNode) → i < length dt → i < length dn → d ≡ f i → listed i (div_at dt dn) ≡ listed i f
    → listed (i + 1) (div_at (set dt i d.train_idx.0) (set dn i d.disp_node_idx)) ≡ listed (i + 1) f
unfolding listed
diverge-turn f dt dn i d a b e h =
    let t = d.train_idx.0 in
    let n = d.disp_node_idx in
    rw (add-one, get_or-set_same dt i t 0 a, get_or-set_same dn i n 0 b)
    (ap₂ (λ (xs : List DivergeNode) (x : DivergeNode). xs ++ (x ∷ [])) (div_other dt dn i t n ∙ h) e)

-- ---- the sentinel

adjust_end : (moved : TrainIdx) (xs : List DivergeNode) (d : DivergeNode) → adjust_sentinel moved (xs ++ (d ∷ [])) ≡ xs ++ (record { train_idx = moved; disp_node_idx = d.disp_node_idx } ∷ [])
unfolding adjust_sentinel
adjust_end moved [] d = refl
adjust_end moved (x ∷ []) d = refl
adjust_end moved (x ∷ (y ∷ ys)) d = ap (λ (l : List DivergeNode). x ∷ l) (adjust_end moved (y ∷ ys) d)

-- the moved train written into the last of m entries
pub adjust_set : (dt dn : List ℕ) (m : ℕ) (moved : TrainIdx) → 1 ≤ m → m ≤ length dt → listed m (div_at (set dt (m - 1) moved.0) dn) ≡ adjust_sentinel moved (listed m (div_at dt dn))
unfolding listed
adjust_set dt dn zero moved a b = absurd (omega arith)
adjust_set dt dn (suc k) moved a b =
    let e : suc k - 1 ≡ k = omega arith in
    rw (e, get_or-set_same dt k moved.0 0 b)
    (ap (λ (xs : List DivergeNode). xs ++ (record { train_idx = moved; disp_node_idx = get_or dn k 0 } ∷ [])) below
    ∙ sym (adjust_end moved (listed k (div_at dt dn)) (div_at dt dn k)))
  where
    below : listed k (div_at (set dt k moved.0) dn) ≡ listed k (div_at dt dn)
    below = listed_same k (div_at dt dn) (div_at (set dt k moved.0) dn) (λ j h. let q : (j ≡ k → ⊥) = λ z. omega arith in rw (get_or-set_other dt k j moved.0 0 q))

-- ---- the train of the first round

pub start_train : (img dt dn : List ℕ) (moved : TrainIdx) → listed (diverge_count_of img) (div_at dt dn) ≡ adjust_sentinel moved (listed (diverge_count_of img) (diverge_at img))
    → train_of img dt dn (path_header img) ≡ with_div_nodes (decoded img) (adjust_sentinel moved (decoded img).div_nodes)
unfolding train_of decoded path_header
start_train img dt dn moved h = rw h

pub start_fits : (top : ℕ) (img : List ℕ) (moved : TrainIdx) → Fits top (decoded img) → moved.0 ≤ top → Fits top (with_div_nodes (decoded img) (adjust_sentinel moved (decoded img).div_nodes))
start_fits top img moved f h = record { ests = f.ests; nodes = f.nodes; divs = adjusted_fits (TrainFits top) moved (decoded img).div_nodes h f.divs; train = f.train; search = f.search; fixed_max = f.fixed_max }

-- ---- the bytes of an accepted image

-- what they give the code
pub accepted-size : (bs : List ℕ) (l : ℕ) → (fault_with Either no_refusal bs l).number ≡ 0 → Bytes bs
    → (node_place (est_count bs) (est_count bs) ≤ length bs) × (length bs ≤ 41024) × (est_count bs ≤ 512) × (diverge_room bs ≤ 1024) × (2 ≤ diverge_count_of bs) × (diverge_count_of bs ≤ diverge_room bs) × (1 ≤ path_count_of bs) × (path_count_of bs ≤ est_count bs)
accepted-size bs l h b =
    let a = Clean.accepted_in Either bs l h in
    let n = words_twice (is_wide bs) (diverge_room bs) in
    let c = Clean.fits-counts bs a.fits in
    let g = Clean.good-image bs a.fits l a.values b in
    (omega (arith, g.long), omega (arith, g.long, c.few-est, c.few-room), c.few-est, c.few-room, c.some-diverge, c.few-diverge, c.some-path, c.few-path)
