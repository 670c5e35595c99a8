pub mod Lesson1
pub mod Lesson2
pub mod Lesson3
pub mod Lesson4
pub mod Lesson5
pub mod Lesson6
