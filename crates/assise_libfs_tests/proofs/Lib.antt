mod Common
mod Grown
