-- The front of a text whose bytes pass a test.
use Rattle.std.specs.Prelude.{◌≡◌, ℕ, ◌<◌, ◌≤◌, Bool, true, false, ◌==◌, ◌||◌, List, ◌+◌, ◌-◌, Some, None, length, take, drop, slice_index}
use Rattle.go_tree.specs.Word.{is_word}
use Rattle.go_tree.specs.Lexeme.{is_word_byte, word_front, mark_item, step_of, start_of, is_dead, opener, class_item}
use Rattle.go_tree.specs.declared.token.Piece.{Piece}
use Rattle.std.specs.List.{fold}
use Rattle.go_tree.specs.declared.class.Class.{Class}
use Rattle.go_tree.specs.declared.class.State.{State}
use Rattle.go_tree.specs.declared.class.State.TheVariants.{Dead}

-- the first n bytes behind the opener of a class go on, up to a state, and the next doesn't
pub record IsRun (class : Class) (first : ℕ) (tail : List ℕ) (n : ℕ) (state : State) : Type 0 where
  pub within : n ≤ length tail
  pub comes : fold (step_of class) (start_of class first) (take n tail) ≡ state
  pub alive : is_dead state ≡ false
  pub stops : n < length tail → step_of class state (slice_index tail n) ≡ Dead

-- ASCII letters and digits, and another byte where they end
pub record IsWordRun (bytes : List ℕ) (n : ℕ) : Type 0 where
  pub within : n ≤ length bytes
  pub each : (k : ℕ) → k < n → is_word_byte (slice_index bytes k) ≡ true
  pub stops : n < length bytes → is_word_byte (slice_index bytes n) ≡ false

-- where the run ends an ASCII byte stands that is of no word
pub record IsLooseRun (bytes : List ℕ) (n : ℕ) : Type 0 where
  pub within : n ≤ length bytes
  pub ascii : n < length bytes → slice_index bytes n < 128
  pub other : n < length bytes → is_word_byte (slice_index bytes n) ≡ false

-- no word is longer than the text at the front of the bytes
pub record IsLooseText (bytes text : List ℕ) : Type 0 where
  pub within : length text ≤ length bytes
  pub front : text ≡ take (length text) bytes
  pub longest : (m : ℕ) → length text < m → m ≤ length bytes → is_word (take m bytes) ≡ false

-- the piece is the longest word, or a byte that begins none
pub record IsWordPiece (piece : Piece) (rest : List ℕ) : Type 0 where
  pub some : 0 < piece.size
  pub within : piece.size ≤ length rest
  pub is : word_front (take piece.size rest) ≡ Some piece.item
  pub longest : (m : ℕ) → piece.size < m → m ≤ length rest → is_word (take m rest) ≡ false

-- the piece is the longest run of its class
pub record IsClassPiece (class : Class) (rest : List ℕ) (piece : Piece) : Type 0 where
  pub n : ℕ
  pub state : State
  pub run : IsRun class (slice_index rest 0) (take (length rest - opener class) (drop (opener class) rest)) n state
  pub size : piece.size ≡ opener class + n
  pub item : piece.item ≡ class_item class state (take piece.size rest)

-- a mark may have this byte behind its first
abbrev pub goes_on : ℕ → Bool
goes_on b = b == 61 || (b == 38 || (b == 94 || (b == 43 || (b == 45 || (b == 46 || (b == 60 || (b == 62 || (b == 124))))))))

-- no front of more than n and at most three bytes is a mark
abbrev pub NoMark : ℕ → List ℕ → Type 0
NoMark n bytes = (m : ℕ) → n < m → m ≤ 3 → m ≤ length bytes → mark_item (take m bytes) ≡ None

-- the piece is the longest mark that begins the bytes, or a byte that begins none
pub record IsMark (piece : Piece) (bytes : List ℕ) : Type 0 where
  pub some : 0 < piece.size
  pub within : piece.size ≤ length bytes
  pub is : mark_item (take piece.size bytes) ≡ Some piece.item
  pub none : NoMark piece.size bytes
