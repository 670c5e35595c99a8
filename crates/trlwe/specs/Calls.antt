-- The public calls on samples: the whole answer of each, and what it leaves in the slice that it writes. Slices are lists of
-- bytes, as they are lent. Each answer has a line for each row of document 01's table of returned numbers that applies.
-- Assumes nothing.
use Rattle.std.specs.Prelude.{List, ℕ, ◌*◌, length}
use Rattle.torus.specs.Bytes.{words, bytes}
use Rattle.answers.specs.Checks as Check
use Rattle.answers.specs.Checks.{◌or_else◌}
use Rattle.answers.specs.Answers.{Answer, accepted, noise, greatest_magnitude, after}
use Rattle.trlwe.specs.Classes.{message}
use Rattle.trlwe.specs.Sample.{encryption, decrypted}

-- "Encrypt classes: mask and N error words are lent .. It reports the greatest error magnitude as bound."
unfoldable pub encrypt_classes : (N M s : ℕ) (key mask errors classes sample : List ℕ) → Answer
encrypt_classes N M s key mask errors classes sample =
    Check.degree N
    or_else Check.class_number M
    or_else Check.count N s
    or_else Check.exact (length key) N or_else Check.exact (length mask) N or_else Check.exact (length errors) N
    or_else Check.exact (length classes) s or_else Check.exact (length sample) (2 * N)
    or_else Check.classes M (words classes)
    or_else Check.key (words key)
    or_else noise M (greatest_magnitude (words errors)) 0

-- What it leaves in the sample's slice: the mask, and "b = a·K + error + message".
unfoldable pub encrypt_classes_sample : (N M s : ℕ) (key mask errors classes sample : List ℕ) → List ℕ
encrypt_classes_sample N M s key mask errors classes sample =
    after (encrypt_classes N M s key mask errors classes sample)
    (bytes (encryption N 1 (words key) (words mask) (words errors) (message M s (words classes)))) sample

-- "Decrypt s classes of a packed sample"
unfoldable pub decrypt_classes : (N M s : ℕ) (key sample classes : List ℕ) → Answer
decrypt_classes N M s key sample classes =
    Check.degree N
    or_else Check.class_number M
    or_else Check.count N s
    or_else Check.exact (length key) N or_else Check.exact (length sample) (2 * N) or_else Check.exact (length classes) s
    or_else Check.key (words key)
    or_else accepted

-- What it leaves in the slice of classes.
unfoldable pub decrypt_classes_classes : (N M s : ℕ) (key sample classes : List ℕ) → List ℕ
decrypt_classes_classes N M s key sample classes =
    after (decrypt_classes N M s key sample classes) (bytes (decrypted N 1 M s (words key) (words sample))) classes
