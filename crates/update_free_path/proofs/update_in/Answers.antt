use mathlib.Core.Path.{sym, ap, subst, ◌∙◌}
use mathlib.Core.List.{List}
use Prim.Native.Nat.{ℕ, ◌<◌}
use native.Mathlib.Omega.{arith}
use lib.ListN.{get_or}
use Rattle.link_rules.proofs.OctetLaws.{put_all}
use Rattle.image.specs.Codec.{decoded}
use Rattle.update_definition.specs.Update.{Updated}
use Rattle.update_definition.specs.UpdateImage.{stored_answer}
use Rattle.update_free_path.specs.Updates.{UpdateBegins, Space, update_of}
use Rattle.update_free_path.proofs.CallLaws.{store_fits}
use Rattle.update_free_path.proofs.update_in.Goals as goal

pub run-r-requires : goal.run-r-requires
run-r-requires c = let a = c.args in
    let p = c.requires in
    let k = c.put_bytes in
    let copied = k.ensures ∙ put_all a.image.now a.scratch.now (sym c.requires.1) in
    (subst (λ (img : List ℕ). UpdateBegins img a.occ.now a.h) (sym copied) p.0, subst (λ (img : List ℕ). Space img a.occ.now a.col.now a.on.now a.flags.now a.known.now a.dt.now a.dn.now) (sym copied) p.2)

pub answered-requires : goal.answered-requires
answered-requires c = let a = c.args in
    let k = c.put_bytes in
    let copied = k.ensures ∙ put_all a.image.now a.scratch.now (sym c.requires.1) in
    let r = c.run-r in
    let bytes : ((i : ℕ) → get_or a.image.now i 0 < 256) = λ i. omega (arith, c.slice_known-1.given i) in
    (r.ensures.faultless, λ q. store_fits a.image.now a.occ.now a.h c.requires.0 bytes r.new.img k.new.to copied (r.ensures.kept q) r.result.header r.result.same_path (r.ensures.path q))

pub shape_of-scratch : goal.shape_of-scratch
shape_of-scratch c = c.scratch-2-1.given ∙ c.scratch-1.given

pub returns : goal.returns
returns c = let a = c.args in
    let k = c.put_bytes in
    let copied = k.ensures ∙ put_all a.image.now a.scratch.now (sym c.requires.1) in
    let r = c.run-r in
    c.answered.ensures (decoded k.new.to)
    ∙ ap (λ (u : Updated). stored_answer u a.image.now) r.ensures.is
    ∙ ap (λ (img : List ℕ). stored_answer (update_of img a.occ.now a.blocking.now a.o) a.image.now) copied
