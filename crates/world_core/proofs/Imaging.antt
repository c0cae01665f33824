-- What is saved of a network without its units, node by node.
use Rattle.std.proofs.Common.{◌≡◌, ◌<◌, ◌+◌, ◌*◌, ◌++◌, ℕ, zero, suc, List, [], ◌∷◌, drop, length, map, take, Option, Some, slice_get, arith, refl, sym, ap, ◌∙◌}
use Rattle.std.proofs.lemmas.List.{append_assoc, map-append}
use Rattle.network_images.specs.Images.{network_image, node_image}
use Rattle.world_specs.specs.Plan.{NodePlan}
use Rattle.world_core.specs.Courses.{Course, network_of, nodes_from, standing_of}
use Rattle.world_core.specs.Saved.{Image, course_image, image_of, standing_image, standing_images}
use Rattle.world_core.specs.declared.image.NodeImage.{NodeImage}
use Rattle.world_core.specs.declared.standing.Standing.{Standing}
use Rattle.world_core.specs.declared.standing.Standing.TheVariants.{New, Live, Down, Over}
use Rattle.world_core.proofs.Placing.{drop-both}

eights : (i : ℕ) → 8 + i * 8 ≡ suc i * 8
eights i = omega arith

eights-more : (k : ℕ) → 8 + (k + 1) * 8 ≡ (suc k + 1) * 8
eights-more k = omega arith

one-more : (k : ℕ) → suc k + 1 ≡ suc (k + 1)
one-more k = omega arith

-- the images from a place on
image-more : (ns : List NodePlan) (ts : List Standing) (cs : List (Option ℕ)) (k : ℕ) (n : NodePlan) (t : Standing)
    → slice_get ns k ≡ Some n → slice_get ts k ≡ Some t
    → standing_images (drop k ns) (drop k ts) (drop (k * 8) cs)
    ≡ standing_image t (take (length n.description.countdown) (drop (k * 8) cs))
    ∷ standing_images (drop (k + 1) ns) (drop (k + 1) ts) (drop ((k + 1) * 8) cs)
image-more [] ts cs k n t a b = absurd cc
image-more (m ∷ ns) [] cs k n t a b = absurd cc
image-more (m ∷ ns) (v ∷ ts) cs zero n t a b = let x : m ≡ n = cc in let y : v ≡ t = cc in rw (x, y) refl
image-more (m ∷ ns) (v ∷ ts) cs (suc k) n t a b =
    let one : drop (k * 8) (drop 8 cs) ≡ drop (suc k * 8) cs = drop-both 8 (k * 8) cs ∙ ap (λ j. drop j cs) (eights k) in
    let two : drop ((k + 1) * 8) (drop 8 cs) ≡ drop ((suc k + 1) * 8) cs =
    drop-both 8 ((k + 1) * 8) cs ∙ ap (λ j. drop j cs) (eights-more k) in
    let three : drop (suc k + 1) (m ∷ ns) ≡ drop (k + 1) ns = ap (λ j. drop j (m ∷ ns)) (one-more k) in
    let four : drop (suc k + 1) (v ∷ ts) ≡ drop (k + 1) ts = ap (λ j. drop j (v ∷ ts)) (one-more k) in
    sym (ap (standing_images (drop k ns) (drop k ts)) one)
    ∙ image-more ns ts (drop 8 cs) k n t a b
    ∙ ap (λ l. standing_image t (take (length n.description.countdown) l)
    ∷ standing_images (drop (k + 1) ns) (drop (k + 1) ts) (drop ((k + 1) * 8) (drop 8 cs))) one
    ∙ ap (λ l. standing_image t (take (length n.description.countdown) (drop (suc k * 8) cs))
    ∷ standing_images (drop (k + 1) ns) (drop (k + 1) ts) l) two
    ∙ sym (ap (λ l. standing_image t (take (length n.description.countdown) (drop (suc k * 8) cs))
    ∷ standing_images l (drop (k + 1) ts) (drop ((suc k + 1) * 8) cs)) three)
    ∙ sym (ap (λ l. standing_image t (take (length n.description.countdown) (drop (suc k * 8) cs))
    ∷ standing_images (drop (suc k + 1) (m ∷ ns)) l (drop ((suc k + 1) * 8) cs)) four)

-- one more
pub imaged : (ns : List NodePlan) (ts : List Standing) (cs : List (Option ℕ)) (k : ℕ) (n : NodePlan) (t : Standing)
    (before after : List NodeImage) (one : NodeImage) → slice_get ns k ≡ Some n → slice_get ts k ≡ Some t → after ≡ before ++ one ∷ []
    → image_of one ≡ standing_image t (take (length n.description.countdown) (drop (k * 8) cs))
    → map image_of before ++ standing_images (drop k ns) (drop k ts) (drop (k * 8) cs) ≡ standing_images ns ts cs
    → map image_of after ++ standing_images (drop (k + 1) ns) (drop (k + 1) ts) (drop ((k + 1) * 8) cs) ≡ standing_images ns ts cs
imaged ns ts cs k n t before after one a b e i h =
    let rest : List Image = standing_images (drop (k + 1) ns) (drop (k + 1) ts) (drop ((k + 1) * 8) cs) in
    ap (λ l. map image_of l ++ rest) e
    ∙ ap (λ l. l ++ rest) (map-append image_of before (one ∷ []))
    ∙ append_assoc (map image_of before) (image_of one ∷ []) rest
    ∙ ap (λ (x : Image). map image_of before ++ x ∷ rest) i
    ∙ sym (ap (λ l. map image_of before ++ l) (image-more ns ts cs k n t a b))
    ∙ h

-- ---- with the states of its units it is what is saved of the network

image-is : {S : Type 0} (t : Standing) (s : S) (cs : List (Option ℕ)) → node_image (λ (x : S). tt) (standing_of t s cs) ≡ standing_image t cs
image-is New s cs = refl
image-is (Live last) s cs = refl
image-is Down s cs = refl
image-is Over s cs = refl

images-are : {S : Type 0} (place : ℕ) (ns : List NodePlan) (ts : List Standing) (ss : List S) (cs : List (Option ℕ)) → length ss ≡ length ns
    → map (λ n. node_image (λ (x : S). tt) n.standing) (nodes_from place ns ts ss cs) ≡ standing_images ns ts cs
images-are place [] ts ss cs e = refl
images-are place (n ∷ ns) [] ss cs e = refl
images-are place (n ∷ ns) (t ∷ ts) [] cs e = absurd (omega (arith, e))
images-are place (n ∷ ns) (t ∷ ts) (s ∷ ss) cs e =
    rw (image-is t s (take (length n.description.countdown) cs), images-are (place + 1) ns ts ss (drop 8 cs) (omega (arith, e))) refl

pub course-image : {S : Type 0} (c : Course) (ss : List S) → length ss ≡ length c.plan.nodes
    → course_image c ≡ network_image (λ (x : S). tt) (network_of c ss)
course-image c ss e = ap (λ is. record (course_image c) { nodes = is }) (sym (images-are 0 c.plan.nodes c.standings ss c.clocks e))
