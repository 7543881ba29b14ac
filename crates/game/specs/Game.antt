-- The lesson game of closer and dispatcher over one train (change request Q-12): its rules, its refusals, the judgement of a position from the positions one turn later, and what the
-- verdict says. Assumes nothing.
use Rattle.std.specs.Prelude.{ℕ, zero, suc, ◌≡◌, ◌↔◌, Bool, true, false, cond, not, ◌&&◌, ◌||◌, List, [], ◌∷◌, ◌++◌, Result, ltb, leb, eqb, length, set}
use Rattle.link_rules.specs.Refusals.{refused_unless, or_else, raised_with}
use Rattle.link_rules.specs.declared.refusal.Refusal.{Refusal}
use Rattle.image.specs.Image.{path_header}
use Rattle.image_fault.specs.declared.Widths.TheVariants.{Either}
use Rattle.free_path.specs.Base.{any}
use Rattle.update_definition.specs.Update.{Status, Success, Blocked, Faulty, Refused}
use Rattle.update_definition.specs.UpdateImage.{update_fault_in, updated_image_wide}

-- what a game is played over: the train's starting image, of either width, the occupancy, the arguments of the final update, the closer's links
pub record Game : Type 0 where
  pub image : List ℕ
  pub occupancy : List ℕ
  pub moved : ℕ
  pub local : Bool
  pub limit : ℕ
  pub links : List ℕ

-- ---- positions

-- which links are closed
abbrev pub Position : Type 0
Position = ℕ → Bool

-- at the start all links are open
abbrev pub all_open : Position
all_open l = false

abbrev pub is_listed : List ℕ → ℕ → Bool
is_listed links x = any (eqb x) links

-- link x of the list is closed; a number that is not in the list closes none
unfoldable pub shut : List ℕ → Position → ℕ → Position
shut links p x = cond (is_listed links x) (λ l. eqb l x || p l) p

-- link x of the list is opened; a number that is not in the list opens none: the dispatcher passes
unfoldable pub opened : List ℕ → Position → ℕ → Position
opened links p x = cond (is_listed links x) (λ l. not (eqb l x) && p l) p

-- ---- a play

-- the closer closes up to two links
pub record Closing : Type 0 where
  pub one : ℕ
  pub two : ℕ

-- the position one turn later: the closing m, then the answer a
abbrev pub after_turn : List ℕ → Position → Closing → ℕ → Position
after_turn links p m a = opened links (shut links (shut links p m.one) m.two) a

-- a closing from the answers so far, the first answer first: no answer is foreseen
abbrev pub Strategy : Type 0
Strategy = List ℕ → Closing

-- the last position: from p on, after the past answers and with those that are coming
unfoldable pub play : List ℕ → Strategy → List ℕ → Position → List ℕ → Position
play links s past p [] = p
play links s past p (a ∷ coming) = play links s (past ++ (a ∷ [])) (after_turn links p (s past) a) coming

-- ---- the final update

-- the closed links, in the order of the list
unfoldable pub closed_links : List ℕ → Position → List ℕ
closed_links [] p = []
closed_links (x ∷ xs) p = cond (p x) (x ∷ closed_links xs p) (closed_links xs p)

-- the occupancy in which the moved train holds these links; every other link keeps its own entry
unfoldable pub held_by : (moved : ℕ) (links occ : List ℕ) → List ℕ
held_by moved [] occ = occ
held_by moved (x ∷ xs) occ = held_by moved xs (set occ x moved)

-- a refusal is no win, nor is any other end
abbrev pub is_blocked : Status → Bool
is_blocked Success = false
is_blocked (Blocked holder) = true
is_blocked (Faulty n) = false
is_blocked (Refused r) = false

-- the update of the starting image with these links closed
abbrev pub final_status : Game → List ℕ → Status
final_status g closed = (updated_image_wide g.image (held_by g.moved closed g.occupancy) closed g.moved g.local g.limit).answer.status

-- the closer wins where it ends Blocked
unfoldable pub closer_wins : Game → Position → Bool
closer_wins g p = is_blocked (final_status g (closed_links g.links p))

-- ---- the closer can force it: one strategy beats every line of as many answers as there are turns

abbrev pub CanForce : List ℕ → (Position → Bool) → ℕ → Type 0
CanForce links wins turns = (s : Strategy) × ((answers : List ℕ) → length answers ≡ turns → wins (play links s [] all_open answers) ≡ true)

-- ---- the judgement, with so many turns left

unfoldable pub every : (ℕ → Bool) → List ℕ → Bool
every f [] = true
every f (x ∷ xs) = f x && every f xs

-- a link of the list, or none
abbrev pub choices : List ℕ → List ℕ
choices links = 0 ∷ links

-- some closing is such that every answer leads to a position that is judged a win with one turn less
unfoldable pub judged : List ℕ → (Position → Bool) → ℕ → Position → Bool
judged links wins zero p = wins p
judged links wins (suc t) p =
    any (λ a. any (λ b. every (λ i. judged links wins t (opened links (shut links (shut links p a) b) i)) (choices links)) (choices links)) (choices links)

-- ---- refusals

-- 10: the train has finished its trip
abbrev pub finished_fault : List ℕ → Refusal
finished_fault img = refused_unless (ltb (path_header img).free (path_header img).path_count) 10

-- the update's own up to 10, with no blocking list: 2, 5, 6, 22, 7, 22, 8, 9, 10
unfoldable pub start_fault : (img occ : List ℕ) (moved limit : ℕ) → Refusal
start_fault img occ moved limit = or_else (update_fault_in Either img occ [] moved limit) (finished_fault img)

-- no repeat, no link 0, none at least l
unfoldable pub links_fit : ℕ → List ℕ → Bool
links_fit l [] = true
links_fit l (x ∷ xs) = ltb 0 x && (ltb x l && (not (is_listed xs x) && links_fit l xs))

-- 28: a bad list, more than 8 links or 6 turns
abbrev pub list_fault : (l : ℕ) (links : List ℕ) (turns : ℕ) → Refusal
list_fault l links turns = refused_unless (leb (length links) 8 && (leb turns 6 && links_fit l links)) 28

unfoldable pub game_fault : Game → ℕ → Refusal
game_fault g turns = or_else (start_fault g.image g.occupancy g.moved g.limit) (list_fault (length g.occupancy) g.links turns)

-- ---- the verdict

-- no where the call is refused by this number
abbrev pub unless_refused : ℕ → Bool → Bool
unless_refused zero b = b
unless_refused (suc n) b = false

-- refused, or a refusal 0 and whether the closer can force it
pub record Verdict : Type 0 where
  pub fault : Refusal
  pub can_force : Bool

abbrev pub told_by : Refusal → Bool → Verdict
told_by f b = record { fault = f; can_force = unless_refused f.number b }

unfoldable pub verdict_of : Game → ℕ → Verdict
verdict_of g turns = told_by (game_fault g turns) (judged g.links (closer_wins g) turns all_open)

-- what the code's answer is
abbrev pub TellsGame : Verdict → Result Bool Refusal → Type 0
TellsGame v r = r ≡ raised_with v.fault v.can_force

-- the verdict 'closer can force it' appears exactly where the call is not refused and the closer, foreseeing no answer, can beat every line of answers
abbrev pub VerdictIsRight : Type 0
VerdictIsRight = (g : Game) (turns : ℕ) → ((verdict_of g turns).can_force ≡ true) ↔ (((game_fault g turns).number ≡ 0) × CanForce g.links (closer_wins g) turns)
