pub mod OneLines
